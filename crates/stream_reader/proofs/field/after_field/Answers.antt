use Rattle.stream_reader.proofs.Words.{sym, take_rest}
use Rattle.stream_reader.proofs.Rests.{after_more, after_none}
use Rattle.stream_reader.proofs.field.after_field.Goals as goal

pub returns-then-size-text : goal.returns-then-size-text
returns-then-size-text c = rw take_rest (sym (after_more c.args.text.now c.args.size c.requires c.if-size-text.true))

pub returns-else-size-text : goal.returns-else-size-text
returns-else-size-text c = sym (after_none c.args.text.now c.args.size c.requires c.if-size-text.false)
