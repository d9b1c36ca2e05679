use Rattle.std.proofs.Common.{◌∙◌, sym}
use Rattle.table_rows.proofs.Numerals.{printable-utf8}
use Rattle.table_rows.proofs.word.printable_text.Goals as goal

pub utf8_text-requires : goal.utf8_text-requires
utf8_text-requires c = printable-utf8 c.args.bytes.now (sym c.is_printable.ensures ∙ c.if-is_printable.true)
