use Rattle.table_rows.proofs.Words.{◌≡◌, take, digits_value}
use Rattle.table_rows.proofs.number.numeral_value.Given as goal

abbrev pub invariant-loop-byte : goal.invariant-loop-byte
invariant-loop-byte l = l.value ≡ digits_value 10 (take l.byte-index l.digits)
