use Rattle.stream_reader.proofs.Words.{◌≡◌, ◌≤◌, ◌<◌, ◌+◌, ◌-◌, ◌^◌, length, drop, hex_on, first_field}
use Rattle.stream_reader.proofs.field.hexadecimal.Given as goal

abbrev pub invariant-loop-size : goal.invariant-loop-size
invariant-loop-size l = record {
  rest : hex_on 0 l.text ≡ hex_on l.value (drop l.size l.text);
  long : length (first_field l.text) ≡ l.size + length (first_field (drop l.size l.text));
  small : l.value < 16 ^ l.size;
  within : l.size ≤ l.many;
}

abbrev pub decreases-loop-size : goal.decreases-loop-size
decreases-loop-size l = length l.text - l.size
