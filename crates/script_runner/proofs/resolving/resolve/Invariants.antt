use Rattle.std.proofs.Common.{◌≡◌, length, take, vec_capacity, vec_len}
use Rattle.script_runner.proofs.PlannedLines.{IsPlanned}
use Rattle.script_runner.proofs.resolving.resolve.Given as goal

abbrev pub invariant-loop-line : goal.invariant-loop-line
invariant-loop-line l = record {
  planned : IsPlanned l.catalog (take l.line-index l.line-items) l.lines.items l.codes;
  count : vec_len l.lines ≡ l.line-index;
  room : vec_capacity l.lines ≡ length l.line-items;
}
