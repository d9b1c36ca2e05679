use Rattle.script_runner.proofs.Words.{◌≡◌, string_bytes, take, flat_map, note_text, IsWrittenSoFar}
use Rattle.script_runner.proofs.writing.write_notes.Given as goal

abbrev pub invariant-loop-note : goal.invariant-loop-note
invariant-loop-note g l = record {
  written : IsWrittenSoFar (g.K.Sink.taken l.initial.out) (g.K.Sink.taken l.out) (flat_map note_text (take l.note-index l.notes)) (string_bytes l.gathered);
  quiet : g.K.Sink.faults l.out ≡ g.K.Sink.faults l.initial.out;
}
