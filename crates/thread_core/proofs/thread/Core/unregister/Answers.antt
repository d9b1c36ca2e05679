use Rattle.thread_core.proofs.Answering.{false, refl, code_follows, goes, registration}
use Rattle.thread_core.proofs.thread.Core.unregister.Goals as goal

pub returns-in-Some : goal.returns-in-Some
returns-in-Some c = code_follows c.requires c.unregister_refusal.ensures c.in-Some.is

pub returns : goal.returns
returns c = rw (← c.self.view_is) (registration _ _ _ false (goes c.self.view_is c.requires c.unregister_refusal.ensures c.in_default.is) tt (λ a. refl))

pub invariant_of-self : goal.invariant_of-self
invariant_of-self c = let f = returns c in (record { book = _; agrees = f.agrees }, c.self.invariant.1)
