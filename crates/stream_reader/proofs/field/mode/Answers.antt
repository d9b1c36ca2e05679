use Rattle.stream_reader.proofs.Words.{◌∙◌, sym, ap, arith, nat_tests}
use Rattle.stream_reader.proofs.Modes.{no_mode, some_mode, mode_byte}
use Rattle.stream_reader.proofs.field.mode.Goals as goal

pub returns-then-not-is_one_byte : goal.returns-then-not-is_one_byte
returns-then-not-is_one_byte c = sym (no_mode c.args.text.now (sym c.if-not-is_one_byte.ensures))

pub returns-in-117 : goal.returns-in-117
returns-in-117 c = sym (some_mode c.args.text.now (sym c.if-not-is_one_byte.ensures) ∙ ap mode_byte c.in-117.is)

pub returns-in-107 : goal.returns-in-107
returns-in-107 c = sym (some_mode c.args.text.now (sym c.if-not-is_one_byte.ensures) ∙ ap mode_byte c.in-107.is)

pub returns-in_default : goal.returns-in_default
returns-in_default c = sym (some_mode c.args.text.now (sym c.if-not-is_one_byte.ensures) ∙ grind (arith, nat_tests))
