use Rattle.name_encoder.proofs.Words.{◌≡◌, ◌∙◌, ◌+◌, ◌/◌, ◌%◌, ◌==◌, ◌<◌, ◌≤◌, ℕ, List, length, drop, get_or, map, refl, sym, ap, drop_more, drop_all}
use Rattle.name_encoder.proofs.Words.{mask_text, FixedMods, UmaskRow, flags_in, both_fixed, fixed_if, fixed_of}
use Rattle.name_encoder.proofs.canonical.fixed_by.Goals as goal

fixed-next : (acc : FixedMods) (bits : ℕ) (xs : List UmaskRow) (i : ℕ) (d : UmaskRow) → i < length xs
    → fixed_of acc (flags_in bits (map mask_text (drop i xs))) (map mask_text (drop i xs))
    ≡ fixed_of (both_fixed acc (fixed_if (bits % 2 == 1) (mask_text (get_or xs i d)).fixed)) (flags_in (bits / 2) (map mask_text (drop (i + 1) xs))) (map mask_text (drop (i + 1) xs))
unfolding fixed_of flags_in
fixed-next acc bits xs i d lt = rw (drop_more xs i d lt) refl

fixed-last : (acc : FixedMods) (bits : ℕ) (xs : List UmaskRow) (i : ℕ) → length xs ≤ i → fixed_of acc (flags_in bits (map mask_text (drop i xs))) (map mask_text (drop i xs)) ≡ acc
unfolding fixed_of flags_in
fixed-last acc bits xs i le = rw (drop_all i xs le) refl

pub loop-m-preserved : goal.loop-m-preserved
loop-m-preserved c =
    let xs = c.args.masks.now in
    let i = c.loop-m.m-index in
    let x = c.m-item.result in
    let step : c.both_fixed-fixed.result ≡ both_fixed c.loop-m.fixed (fixed_if (c.loop-m.left % 2 == 1) (mask_text (get_or xs i x)).fixed) =
    c.both_fixed-fixed.ensures ∙ ap (both_fixed c.loop-m.fixed) (c.fixed_if.ensures ∙ ap (λ (y : UmaskRow). fixed_if (c.loop-m.left % 2 == 1) (mask_text y).fixed) c.m-item.is) in
    c.loop-m.invariant ∙ fixed-next c.loop-m.fixed c.loop-m.left xs i x c.loop-m-test.true
    ∙ ap (λ (f : FixedMods). fixed_of f (flags_in (c.loop-m.left / 2) (map mask_text (drop (i + 1) xs))) (map mask_text (drop (i + 1) xs))) (sym step)

pub returns : goal.returns
returns c = sym (c.loop-m.invariant ∙ fixed-last c.loop-m.fixed c.loop-m.left c.args.masks.now c.loop-m.m-index c.loop-m-test.false)
