use Rattle.stream_reader.proofs.Words.{arith, take_rest}
use Rattle.stream_reader.proofs.WholeLines.{front}
use Rattle.stream_reader.proofs.common_line.front_after.Goals as goal

pub returns : goal.returns
returns c =
    front c.args.text.now c.args.comp c.in_ok-head.head c.in_ok-amount.amount c.hexadecimal_at-pc.result c.requires.long c.requires.component
    (rw take_rest at c.in_ok-head.ensures) (rw take_rest at c.in_ok-amount.ensures) c.hexadecimal_at-pc.ensures (omega (arith, c.if-pc-eq0.false))
