-- Items under numbers, if one is put anew.
use Rattle.session_model.proofs.Words.{◌≡◌, ◌≢◌, ℕ, List, length, sym, ◌∙◌, ap, arith, slice_get, slice_set, Some, get_or-set_same, get_or-set_other}
use Rattle.session_model.proofs.Words.{slice_get_within, slice_get-get_or, get_or_from_slice_get, slice_get_read, length-set}

pub set_same : {X : Type 0} (xs : List X) (i : ℕ) (x y : X) → slice_get xs i ≡ Some x → slice_get (slice_set xs i y) i ≡ Some y
set_same xs i x y e =
    let inside = slice_get_within xs i x e in
    slice_get-get_or (slice_set xs i y) i y (omega (arith, length-set xs i y)) ∙ ap Some (get_or-set_same xs i y y inside)

pub set_other : {X : Type 0} (xs : List X) (i j : ℕ) (x y : X) → slice_get xs j ≡ Some x → j ≢ i → slice_get (slice_set xs i y) j ≡ Some x
set_other xs i j x y e apart =
    let inside = slice_get_within xs j x e in
    slice_get_read (slice_set xs i y) (length xs) j x (sym (length-set xs i y)) inside (sym (get_or-set_other xs i j y x apart ∙ get_or_from_slice_get xs j x x e))
