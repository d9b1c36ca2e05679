use Rattle.stream_reader.proofs.Newlines.{finds-newline, near-newline}
use Rattle.stream_reader.proofs.newline.line_len.Goals as goal

pub returns-then-size-lt-NEAR : goal.returns-then-size-lt-NEAR
returns-then-size-lt-NEAR c = near-newline c.args.text.now c.before_newline-size.result 32 c.if-text-ge-NEAR.true c.before_newline-size.ensures c.if-size-lt-NEAR.true

pub returns : goal.returns
returns c = finds-newline c.args.text.now c.memchr.result c.memchr.ensures
