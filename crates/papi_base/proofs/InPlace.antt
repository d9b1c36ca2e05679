-- A loop that replaces a list's items one after another: those before i are done, the others are as they were.
use Rattle.std.proofs.Common.{◌≡◌, ℕ, ◌+◌, ◌<◌, List, [], ◌∷◌, ◌++◌, length, get_or, set, take, drop, ap, sym, ◌∙◌, arith, Some, slice_get, append_assoc, length-take-le}
use Rattle.std.proofs.Math.Seq.{get_or-append_seam, set-append_seam}
use Rattle.std.proofs.lemmas.Option.{get_or_from_slice_get, slice_get-get_or}
use Rattle.papi_base.proofs.Steps.{drop_at, get_at, take_at}

-- one turn of the loop
pub in_place_put : {X : Type 0} (new old items : List X) (i : ℕ) (y : X) → length new ≡ length old → i < length old → items ≡ take i new ++ drop i old → slice_get new i ≡ Some y
    → set items i y ≡ take (i + 1) new ++ drop (i + 1) old
in_place_put new old items i y e h done g =
    let x = get_at old i h in
    let rest = drop (i + 1) old in
    let long : length (take i new) ≡ i = length-take-le i new (omega arith) in
    let seam : set (take i new ++ x.0 ∷ rest) i y ≡ take i new ++ y ∷ rest = rw long at (set-append_seam (take i new) x.0 rest y) in
    ap (λ xs. set xs i y) done ∙ rw (drop_at old i x.0 x.1, take_at new i y g) (seam ∙ sym (append_assoc (take i new) (y ∷ []) rest))

-- a turn that changes nothing
pub in_place_skip : {X : Type 0} (new old items : List X) (i : ℕ) (y : X) → length new ≡ length old → i < length old → items ≡ take i new ++ drop i old → slice_get new i ≡ Some y → slice_get old i ≡ Some y
    → items ≡ take (i + 1) new ++ drop (i + 1) old
in_place_skip new old items i y e h done g f = done ∙ rw (drop_at old i y f, take_at new i y g) (sym (append_assoc (take i new) (y ∷ []) (drop (i + 1) old)))

-- what the loop reads, of a list of numbers
pub in_place_number : (new old items : List ℕ) (i : ℕ) → length new ≡ length old → i < length old → items ≡ take i new ++ drop i old → get_or items i 0 ≡ get_or old i 0
in_place_number new old items i e h done =
    let x = get_at old i h in
    let long : length (take i new) ≡ i = length-take-le i new (omega arith) in
    let seam : get_or (take i new ++ x.0 ∷ drop (i + 1) old) i 0 ≡ x.0 = rw long at (get_or-append_seam (take i new) x.0 (drop (i + 1) old) 0) in
    ap (λ xs. get_or xs i 0) done ∙ rw (drop_at old i x.0 x.1) seam ∙ sym (get_or_from_slice_get old i x.0 0 x.1)

pub number_at : (xs : List ℕ) (i : ℕ) → i < length xs → slice_get xs i ≡ Some (get_or xs i 0)
number_at xs i = slice_get-get_or xs i 0
