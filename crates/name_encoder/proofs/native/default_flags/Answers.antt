use Rattle.name_encoder.proofs.Words.{◌≡◌, ◌∙◌, ◌+◌, ◌<◌, ◌∷◌, ◌++◌, ℕ, [], List, Bool, length, map, take, get_or, sym, ap, arith, length-set}
use Rattle.name_encoder.proofs.Words.{take_more, take_more_set, map-append, mask_text, MaskText, UmaskRow, choices}
use Rattle.name_encoder.proofs.native.default_flags.Goals as goal

choices-more : (xs : List UmaskRow) (i : ℕ) (d : UmaskRow) → i < length xs → choices (map mask_text (take (i + 1) xs)) ≡ choices (map mask_text (take i xs)) ++ (get_or xs i d).preset_choice ∷ []
choices-more xs i d lt =
    rw (take_more xs i d lt, map-append mask_text (take i xs) (get_or xs i d ∷ [])) (map-append (λ (m : MaskText). m.preset_choice) (map mask_text (take i xs)) (mask_text (get_or xs i d) ∷ []))

pub loop-i-preserved : goal.loop-i-preserved
loop-i-preserved c =
    let flags = c.loop-i.flags in
    let i = c.loop-i.i in
    let x = c.index-masks-i.result in
    let v = (get_or c.args.masks.now i x).preset_choice in
    record {
      room = length-set flags i v ∙ c.loop-i.invariant.room;
      set = take_more_set flags i v (omega arith) ∙ ap (λ (t : List Bool). t ++ v ∷ []) c.loop-i.invariant.set ∙ sym (choices-more c.args.masks.now i x c.loop-i-test.true);
    }
