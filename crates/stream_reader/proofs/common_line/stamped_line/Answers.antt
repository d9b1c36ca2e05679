use Rattle.stream_reader.proofs.Words.{◌<◌, ◌≤◌, arith, take_rest}
use Rattle.stream_reader.proofs.WholeLines.{begins-2}
use Rattle.stream_reader.proofs.common_line.stamped_line.Goals as goal

pub returns : goal.returns
returns c =
    let few : c.in_ok-front.front.size < 32 = c.in_ok-front.ensures.few in
    let s_few : c.in_ok-stamp.stamp.size ≤ 10 = c.in_ok-stamp.ensures.few in
    rw c.occ_with.ensures (begins-2 c.args.start.now c.args.text.now c.in_ok-front.front c.in_ok-stamp.stamp c.in_ok-size.size c.requires c.in_ok-front.ensures
    (rw take_rest at c.in_ok-stamp.ensures) (omega arith) c.in_ok-size.ensures)
