use Rattle.std.proofs.Common.{List, ℕ, slice_get, drop, ap, sym, ◌∙◌, arith}
use Rattle.overflow_dispatch.proofs.Places.{count_out, first_out}
use Rattle.overflow_dispatch.proofs.passed.Passed.pop_first.Goals as goal

pub overflow_sub-self : goal.overflow_sub-self
overflow_sub-self c = (count_out c.self.inside.bits c.self.inside.len (omega (arith, c.if-self-eq0.false)) (omega arith) c.self.invariant.many).0

pub invariant_of-self : goal.invariant_of-self
invariant_of-self c = record { many = (count_out c.self.inside.bits c.self.inside.len (omega (arith, c.if-self-eq0.false)) (omega arith) c.self.invariant.many).1 }

pub returns-clause-first : goal.returns-clause-first
returns-clause-first c =
    let bits = c.self.inside.bits in
    sym (ap (λ (places : List ℕ). slice_get places 0) (first_out bits (omega (arith, c.if-self-eq0.false)) (omega arith))) ∙ ap (λ (places : List ℕ). slice_get places 0) c.self.view_is

pub returns-clause-rest : goal.returns-clause-rest
returns-clause-rest c =
    let bits = c.self.inside.bits in
    sym (ap (λ (places : List ℕ). drop 1 places) (first_out bits (omega (arith, c.if-self-eq0.false)) (omega arith))) ∙ ap (λ (places : List ℕ). drop 1 places) c.self.view_is
