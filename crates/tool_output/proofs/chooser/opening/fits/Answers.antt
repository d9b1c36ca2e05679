use Rattle.tool_output.proofs.Words.{◌≡◌, ◌∙◌, ◌<◌, ◌^◌, ◌++◌, ◌&&◌, true, List, ℕ, ap, ap₂, length, sym, take, subst, arith, length-append, ◌↔◌}
use Rattle.tool_output.proofs.Words.{IsTrue, nat_le, slice_index, nat_tests, map-append, Assignable, is_assignable, masks_of, are_masks, Native}
use Rattle.tool_output.proofs.Openings.{all_right, fits_is, masks_below}
use Rattle.tool_output.proofs.chooser.opening.fits.Goals as goal

pub would_fit-requires-clause-in_range : goal.would_fit-requires-clause-in_range
would_fit-requires-clause-in_range c =
    let bound = 2 ^ c.args.matching.now.counters in
    let further = c.args.further.now in
    let is = ap (λ k. take k c.masks.result) c.len-then-len.ensures.length ∙ c.masks.ensures in
    subst (λ (xs : List ℕ). (i : ℕ) → i < length xs → slice_index xs i < bound) (sym is)
    (masks_below bound further (all_right (λ (n : Native). n.allowed < bound) c.args.natives.now further c.requires.in_range))

pub returns-then-len : goal.returns-then-len
returns-then-len c =
    let natives = c.args.natives.now in
    let further = c.args.further.now in
    let all = natives ++ further in
    let is = ap (λ k. take k c.masks.result) c.len-then-len.ensures.length ∙ c.masks.ensures in
    let joined = ap₂ (λ (xs ys : List ℕ). xs ++ ys) c.requires.before is ∙ sym (map-append (λ (n : Native). n.allowed) natives further) in
    let few : nat_le (length all) 32 ≡ true = grind (arith, nat_tests, length-append natives further, c.len.ensures.length, c.len-2.ensures.length, c.if-len.true) in
    fits_is c.would_fit.result (masks_of all) (are_masks c.args.matching.now.counters all c.requires.few c.requires.in_range)
    (subst (λ (xs : List ℕ). IsTrue c.would_fit.result ↔ Assignable xs) joined c.would_fit.ensures)
    ∙ ap (λ b. b && is_assignable (masks_of all)) (sym few)
