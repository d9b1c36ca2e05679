use Rattle.std.proofs.Common.{◌≤◌, ◌-◌, length, string_bytes}
use Rattle.tool_output.proofs.Listed.{IsFilled}
use Rattle.tool_output.proofs.listings.lines.push_column.Given as goal

abbrev pub invariant-loop-place : goal.invariant-loop-place
invariant-loop-place l = record {
  text : IsFilled (string_bytes l.fn.text) l.field l._place (string_bytes l.text);
  within : l._place - length l.field ≤ l.width - length l.field;
}
