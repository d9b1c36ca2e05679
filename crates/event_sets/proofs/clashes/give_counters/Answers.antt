-- the blame of the native events so far is that of all
use Rattle.event_sets.proofs.Words.{arith, nat_tests, err_from_is_err_and}
use Rattle.event_sets.proofs.Clashing.{blame_whole, masks_at, refused_whole}
use Rattle.event_sets.proofs.clashes.give_counters.Goals as goal

pub returns-in_err-add-clause-not_assignable : goal.returns-in_err-add-clause-not_assignable
returns-in_err-add-clause-not_assignable c = let p = err_from_is_err_and c.from_residual.result c.from_residual.ensures.1 in rw p.1
    (refused_whole c.args.natives.now c.loop-i.i c.at.result c.loop-i.matching.allowed c.at.ensures.item c.loop-i.invariant.allowed c.in_err-add.ensures.not_assignable)

pub returns-in_err-add-clause-blame : goal.returns-in_err-add-clause-blame
returns-in_err-add-clause-blame c = grind (arith, nat_tests, err_from_is_err_and, blame_whole)

pub loop-i-preserved : goal.loop-i-preserved
loop-i-preserved c = grind (arith, nat_tests, masks_at)
