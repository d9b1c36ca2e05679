use Rattle.std.proofs.Common.{◌∙◌, sym}
use Rattle.table_rows.proofs.Numerals.{name-utf8}
use Rattle.table_rows.proofs.word.name_text.Goals as goal

pub utf8_text-requires : goal.utf8_text-requires
utf8_text-requires c = name-utf8 c.args.bytes.now (sym c.is_name.ensures ∙ c.if-is_name.true)
