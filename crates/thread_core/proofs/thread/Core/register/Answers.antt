use Rattle.thread_core.proofs.Answering.{refl, true, agrees_now, registration, Register}
use Rattle.thread_core.proofs.thread.Core.register.Goals as goal

pub returns : goal.returns
returns c = rw (← c.self.view_is) (registration _ _ Register true (record { agrees = agrees_now c.self.view_is c.requires; allowed = refl }) tt (λ a. refl))

pub invariant_of-self : goal.invariant_of-self
invariant_of-self c = let f = returns c in (record { book = _; agrees = f.agrees }, c.self.invariant.1)
