use Rattle.std.proofs.Common.{◌<◌, arith}
use Rattle.stream_reader.proofs.WholeLines.{begins-1}
use Rattle.stream_reader.proofs.common_line.numbered_line.Goals as goal

pub returns : goal.returns
returns c =
    let few : c.in_ok-front.front.size < 32 = c.in_ok-front.ensures.few in
    rw c.occ_with.ensures (begins-1 c.args.start.now c.args.text.now c.in_ok-front.front c.in_ok-size.size c.requires c.in_ok-front.ensures (omega arith) c.in_ok-size.ensures)
