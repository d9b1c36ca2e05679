use Rattle.stream_reader.proofs.Words.{◌≡◌, ◌≤◌, ◌+◌, ◌*◌, length, drop, digits_on, first_field}
use Rattle.stream_reader.proofs.field.digits.Given as goal

abbrev pub invariant-loop-size : goal.invariant-loop-size
invariant-loop-size l = record {
  rest : digits_on 0 l.text ≡ digits_on l.value (drop l.size l.text);
  long : length (first_field l.text) ≡ l.size + length (first_field (drop l.size l.text));
  small : l.value ≤ 10 * l.greatest + 9;
}
