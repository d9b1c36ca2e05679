use Rattle.thread_core.proofs.Answering.{◌∙◌, ap, free, arith, code_follows, goes, free_is, create_follows, forgotten}
use Rattle.thread_core.proofs.thread.Core.create.Goals as goal

pub returns-in-Some : goal.returns-in-Some
returns-in-Some c = code_follows c.requires c.create_refusal.ensures c.in-Some.is

pub index_mut-requires : goal.index_mut-requires
index_mut-requires c =
    let below = free_is (goes c.self.view_is c.requires c.create_refusal.ensures c.in_default.is) (c.free_number-number.ensures ∙ ap free c.deref.ensures.value) in
    omega (arith, c.self.inside.slots.ok.0, below)

pub returns : goal.returns
returns c =
    rw (c.new.ensures, ← c.self.view_is) (create_follows _ _ _ (goes c.self.view_is c.requires c.create_refusal.ensures c.in_default.is)
    (c.free_number-number.ensures ∙ ap free c.deref.ensures.value))

pub invariant_of-self : goal.invariant_of-self
invariant_of-self c = let f = returns c in (record { book = _; agrees = f.agrees }, forgotten _ _ c.forget.ensures)
