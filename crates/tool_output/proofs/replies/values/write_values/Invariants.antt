use Rattle.tool_output.proofs.Words.{◌≡◌, ◌+◌, ◌-◌, ◌*◌, ◌≤◌, ◌++◌, length, map, drop, signed_decimal, IsAscii, spaced, LONGEST_VALUE}
use Rattle.tool_output.proofs.replies.values.write_values.Given as goal

abbrev pub invariant-loop-written : goal.invariant-loop-written
invariant-loop-written l = record {
  low : l.end ≤ l.at + LONGEST_VALUE * l.written;
  high : l.at ≤ l.end;
  ascii : IsAscii (drop l.end l.initial.bytes) → IsAscii (drop l.at l.bytes);
  gathered : drop l.at l.bytes ≡ spaced (map signed_decimal (drop (length l.values - l.written) l.values)) ++ drop l.end l.initial.bytes;
}
