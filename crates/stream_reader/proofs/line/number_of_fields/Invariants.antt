use Rattle.stream_reader.proofs.Words.{◌≡◌, ◌≤◌, ◌==◌, take, count_by}
use Rattle.stream_reader.proofs.line.number_of_fields.Given as goal

abbrev pub invariant-loop-byte : goal.invariant-loop-byte
invariant-loop-byte l = record {
  counted : l.spaces ≡ count_by (λ b. b == 32) (take l.byte-index l.text);
  within : l.spaces ≤ l.byte-index;
}
