use Rattle.std.proofs.Common.{arith}
use Rattle.std.proofs.lemmas.Grind.{common_steps}
use Rattle.overflow_dispatch.proofs.Passes.{passed_past}
use Rattle.overflow_dispatch.proofs.thresholds.Thresholds.passed.Goals as goal

pub loop-index-preserved : goal.loop-index-preserved
loop-index-preserved c = grind (arith, common_steps)

pub returns : goal.returns
returns c =
    let end = c.self.inside.end in
    let none = passed_past c.args.carry end end c.self.inside.counters c.self.invariant.1.none in
    grind (arith, common_steps, none)
