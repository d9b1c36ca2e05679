use Rattle.std.proofs.Common.{◌≡◌, take, true}
use Rattle.std.specs.List.{list_all}
use Rattle.std.specs.Str.Parse.{digits_value}
use Rattle.table_rows.specs.Texts.{is_digit}
use Rattle.script_lines.proofs.short.numeral_in.Given as goal

abbrev pub invariant-loop-i : goal.invariant-loop-i
invariant-loop-i l = record {
  digits : list_all is_digit (take l.i l.bytes) ≡ true;
  same : l.value ≡ digits_value 10 (take l.i l.bytes);
}
