use Rattle.call_laws.proofs.Words.{All, FitsSigned, take, rules, sym, subst, w64, All-push, take_at}
use Rattle.call_laws.proofs.regions.values_fit.Goals as goal

pub loop-i-preserved : goal.loop-i-preserved
loop-i-preserved c =
    subst (All (FitsSigned w64)) (sym (take_at c.args.values.now c.loop-i.i c.at-value.result c.at-value.ensures.item))
    (All-push (FitsSigned w64) (take c.loop-i.i c.args.values.now) c.at-value.result c.loop-i.invariant (search rules))
