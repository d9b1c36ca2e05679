use Rattle.name_encoder.proofs.Words.{◌≡◌, ◌∙◌, ◌+◌, ◌/◌, ◌%◌, ◌==◌, ◌<◌, ◌≤◌, ◌∷◌, ◌++◌, ℕ, List, [], length, get_or, map, drop, refl, sym, ap}
use Rattle.name_encoder.proofs.Words.{append_assoc, append-nil, drop_more, drop_all, if◌then◌else◌, string_bytes, Text, mask_text, UmaskRow}
use Rattle.name_encoder.proofs.Words.{masks_text}
use Rattle.name_encoder.proofs.canonical.push_masks.Goals as goal

masks-more : (bits : ℕ) (xs : List UmaskRow) (i : ℕ) (d : UmaskRow) → i < length xs
    → masks_text bits (map mask_text (drop i xs)) ≡ (if bits % 2 == 1 then 58 ∷ (mask_text (get_or xs i d)).name else []) ++ masks_text (bits / 2) (map mask_text (drop (i + 1) xs))
unfolding masks_text
masks-more bits xs i d lt = rw (drop_more xs i d lt) refl

masks-done : (bits : ℕ) (xs : List UmaskRow) (i : ℕ) → length xs ≤ i → masks_text bits (map mask_text (drop i xs)) ≡ []
unfolding masks_text
masks-done bits xs i le = rw (drop_all i xs le) refl

pub loop-m-preserved : goal.loop-m-preserved
loop-m-preserved c =
    let x = c.m-item.result in
    let name = string_bytes c.loop-m.name in
    let here : Text = if c.loop-m.left % 2 == 1 then 58 ∷ (mask_text (get_or c.args.masks.now c.loop-m.m-index c.m-item.result)).name else [] in
    let tail : Text = masks_text (c.loop-m.left / 2) (map mask_text (drop (c.loop-m.m-index + 1) c.args.masks.now)) in
    let more = masks-more c.loop-m.left c.args.masks.now c.loop-m.m-index x c.loop-m-test.true in
    let pushed = rw c.as_str.ensures.value at c.in_ok-push_mask.ensures
    ∙ ap (λ (y : UmaskRow). string_bytes c.loop-m.name ++ (if c.loop-m.left % 2 == 1 then 58 ∷ (mask_text y).name else [])) c.m-item.is in
    c.loop-m.invariant ∙ ap (λ (t : Text). string_bytes c.loop-m.name ++ t) more ∙ sym (append_assoc name here tail) ∙ ap (λ (t : Text). t ++ tail) (sym pushed)

pub returns : goal.returns
returns c =
    let done = masks-done c.loop-m.left c.args.masks.now c.loop-m.m-index c.loop-m-test.false in
    sym (c.loop-m.invariant ∙ ap (λ (t : Text). string_bytes c.loop-m.name ++ t) done ∙ append-nil (string_bytes c.loop-m.name))
