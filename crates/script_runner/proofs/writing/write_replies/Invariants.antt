use Rattle.script_runner.proofs.Words.{◌≡◌, string_bytes, take, flat_map, IsWrittenSoFar, reply_line_text}
use Rattle.script_runner.proofs.writing.write_replies.Given as goal

abbrev pub invariant-loop-i : goal.invariant-loop-i
invariant-loop-i g l = record {
  written : IsWrittenSoFar (g.K.Sink.taken l.initial.out) (g.K.Sink.taken l.out) (flat_map (reply_line_text l.catalog) (take l.i l.lines)) (string_bytes l.gathered);
  quiet : g.K.Sink.faults l.out ≡ g.K.Sink.faults l.initial.out;
}
