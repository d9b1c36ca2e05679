use Rattle.std.proofs.Common.{Some, ap, arith, sym, ◌∙◌}
use Rattle.thread_core.proofs.Known.{known_put, told_is}
use Rattle.thread_core.proofs.running_sets.RunningSets.on.Goals as goal

pub returns-in-Some-clause-number : goal.returns-in-Some-clause-number
returns-in-Some-clause-number c =
    sym (told_is _ _ c.self.inside.known c.args.comp c.in-Some.number c.self.view_is (omega (arith, c.self.invariant)) (sym c.told_by.ensures ∙ c.in-Some.is) c.requires.known)

pub returns-clause-known : goal.returns-clause-known
returns-clause-known c =
    known_put _ _ c.self.inside.known c.args.comp c.kept_of.result c.self.view_is (omega (arith, c.self.invariant)) (c.kept_of.ensures ∙ ap Some c.running_on-number.ensures.number) c.requires.known
