use Rattle.std.proofs.Common.{◌∙◌, sym}
use Rattle.table_rows.proofs.Numerals.{decimal-numeral}
use Rattle.table_rows.proofs.number.decimal_in.Goals as goal

pub numeral_value-requires : goal.numeral_value-requires
numeral_value-requires c = decimal-numeral c.args.bytes.now (sym c.is_decimal.ensures ∙ c.if-not-is_decimal.false)
