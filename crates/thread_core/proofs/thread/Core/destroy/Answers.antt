use Rattle.thread_core.proofs.Answering.{code_follows, goes, destroy_follows, forgotten}
use Rattle.thread_core.proofs.thread.Core.destroy.Goals as goal

pub returns-in-Some : goal.returns-in-Some
returns-in-Some c = code_follows c.requires c.destroy_refusal.ensures.refused c.in-Some.is

pub returns : goal.returns
returns c = rw (← c.self.view_is) (destroy_follows _ _ c.args.set (goes c.self.view_is c.requires c.destroy_refusal.ensures.refused c.in_default.is))

pub invariant_of-self : goal.invariant_of-self
invariant_of-self c = let f = returns c in (record { book = _; agrees = f.agrees }, forgotten _ _ c.forget.ensures)
