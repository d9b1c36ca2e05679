use Rattle.std.proofs.Common.{◌<◌, ◌+◌, ◌++◌, ◌∷◌, [], length, ap, sym, ◌∙◌, arith}
use Rattle.std.specs.Prelude.{All}
use Rattle.std.specs.Int.{w32}
use Rattle.std.proofs.lemmas.List.{length-append}
use Rattle.std.proofs.lemmas.Nat.Bits.{bit_at_set_same, bit_at_set_other}
use Rattle.overflow_dispatch.specs.Passing.{places_from}
use Rattle.overflow_dispatch.proofs.Places.{length-places, none_above, place_more}
use Rattle.overflow_dispatch.proofs.passed.Passed.push.Goals as goal

pub overflow_add-self : goal.overflow_add-self
overflow_add-self c = let many = c.self.invariant.many in let most = length-places c.self.inside.bits 0 32 in omega arith

pub invariant_of-self : goal.invariant_of-self
invariant_of-self c =
    let bits = c.self.inside.bits in
    let index = c.args.index in
    let above : All (λ k. k < index) (places_from bits 0 32) = rw c.self.view_is c.requires.above in
    let more = place_more bits _ index 0 32 (bit_at_set_same w32 bits index c.requires.below)
    (λ k apart. bit_at_set_other w32 bits index c.requires.below k apart) (none_above bits index (omega arith) above) (omega arith)
    (omega (arith, c.requires.below)) in
    record { many = ap (λ n. n + 1) c.self.invariant.many ∙ sym (ap length more ∙ length-append (places_from bits 0 32) (index ∷ [])) }

pub returns : goal.returns
returns c =
    let bits = c.self.inside.bits in
    let index = c.args.index in
    let above : All (λ k. k < index) (places_from bits 0 32) = rw c.self.view_is c.requires.above in
    place_more bits _ index 0 32 (bit_at_set_same w32 bits index c.requires.below) (λ k apart. bit_at_set_other w32 bits index c.requires.below k apart)
    (none_above bits index (omega arith) above) (omega arith) (omega (arith, c.requires.below))
    ∙ ap (λ places. places ++ index ∷ []) c.self.view_is
