use Rattle.stream_reader.proofs.Words.{◌≡◌, ◌≤◌, ◌<◌, ◌-◌, ◌^◌, take, true, list_all, digits_value, is_digit}
use Rattle.stream_reader.proofs.common_line.decimal_digits.Given as goal

abbrev pub invariant-loop-size : goal.invariant-loop-size
invariant-loop-size l = record {
  each : list_all is_digit (take l.size l.text) ≡ true;
  value : l.value ≡ digits_value 10 (take l.size l.text);
  small : l.value < 10 ^ l.size;
  few : l.size ≤ 10;
}

abbrev pub decreases-loop-size : goal.decreases-loop-size
decreases-loop-size l = 10 - l.size
