-- What a set takes whose natives are on the counters of a component.
use Rattle.std.proofs.Common.{◌≡◌, ◌∙◌, ◌<◌, ◌^◌, ◌++◌, ◌∷◌, ◌&&◌, ℕ, zero, suc, Bool, true, false, List, [], Option, Some, None, Result, Ok, Err, length, slice_get, refl, sym, ap, subst, arith}
use Rattle.tool_output.proofs.Words.{◌↔◌, All, IsTrue, OnErr, is_none, is_ok, nat_le, slice_index, option_map, nat_tests, get_or_from_slice_get}
use Rattle.tool_output.proofs.Words.{slice_get_within, Assignable, is_assignable, AreMasks, masks_of, is_assignable_false, is_assignable_true}
use Rattle.tool_output.proofs.Words.{add_refusal, blamed_unless, clash_of, Widths, clash_with, is_other, widths_at, IsSound, SetView, Conflict, Ready}
use Rattle.tool_output.proofs.Words.{can_take, clash_is, full_of_natives, not_full, refused_full, EventRef, Native, Book, natives_of_event, joined_by}

-- ---- the counters of a component

own_is : (own : Option ℕ) (comp k : ℕ) → own ≡ Some k → is_other own (Some comp) ≡ false → own ≡ Some comp
own_is None comp k has mine = cc
own_is (Some fixed) comp k has mine = let same : fixed ≡ comp = grind (arith, nat_tests, mine) in ap Some same

-- a native of a set that has no other component is allowed counters of this one
pub in_range_of : (shape : Widths) (s : SetView) (counters comp i : ℕ) (n : Native) → IsSound s → s.counters ≡ length (widths_at shape s.rest.component)
    → is_other s.rest.component (Some comp) ≡ false → counters ≡ length (widths_at shape (Some comp)) → slice_get s.natives i ≡ Some n → n.allowed < 2 ^ counters
in_range_of shape s counters comp i n sound own_counters mine counters_is at =
    let inside = slice_get_within s.natives i n at in
    let own = own_is s.rest.component comp _ (sound.owned i n inside) mine in
    let same : s.counters ≡ counters = own_counters ∙ ap (λ (o : Option ℕ). length (widths_at shape o)) own ∙ sym counters_is in
    subst (λ (k : ℕ). n.allowed < 2 ^ k) same (subst (λ (m : Native). m.allowed < 2 ^ s.counters) (get_or_from_slice_get s.natives i n n at) (sound.in_range i n inside))

-- ---- counters for further natives

pub all_right : {X : Type 0} (P : X → Type 0) (xs ys : List X) → All P (xs ++ ys) → All P ys
all_right P [] ys h = h
all_right P (x ∷ xs) ys h = all_right P xs ys (λ k d below. h (suc k) d (omega arith))

pub masks_below : (bound : ℕ) (natives : List Native) → All (λ n. n.allowed < bound) natives → (i : ℕ) → i < length (masks_of natives) → slice_index (masks_of natives) i < bound
masks_below bound [] h i below = absurd (omega arith)
masks_below bound (n ∷ ns) h zero below = h 0 n (omega arith)
masks_below bound (n ∷ ns) h (suc i) below = masks_below bound ns (λ k d b. h (suc k) d (omega arith)) i (omega arith)

pub fits_is : (b : Bool) (allowed : List ℕ) → AreMasks allowed → IsTrue b ↔ Assignable allowed → b ≡ is_assignable allowed
fits_is true allowed masks h = sym (is_assignable_true allowed masks (h.0 refl))
fits_is false allowed masks h = sym (is_assignable_false allowed masks (λ a. let no : IsTrue false = h.1 a in cc no))

pub err_of : {T E : Type 0} (r : Result T E) (P : Type 0) → is_ok r ≡ false → OnErr r P → P
err_of (Ok x) P e h = cc e
err_of (Err x) P e h = h

-- ---- the answer

none_of_clash : (b : Bool) (natives : List Native) → is_none (option_map Conflict (blamed_unless b natives)) ≡ b
none_of_clash true natives = refl
none_of_clash false natives = refl

module _ (book : Book) (shape : Widths) (e : EventRef) (s : SetView) (n : Native) (ready : Ready book shape e s n) (all : List Native) (joins : all ≡ joined_by s.natives (natives_of_event book e)) where
  -- an event of the component that is not in the set is taken if there is room for its natives, and counters
  pub takes_is : length s.rest.events < 32 → s.rest.slice ≡ None → is_none (add_refusal book e s.rest) ≡ (nat_le (length all) 32 && is_assignable (masks_of all))
  takes_is few unshared = go (nat_le (length all) 32) refl
    where
      go : (b : Bool) → nat_le (length all) 32 ≡ b → is_none (add_refusal book e s.rest) ≡ (b && is_assignable (masks_of all))
      go true is =
          let room = not_full book shape e s n ready all joins few (grind (arith, nat_tests, is)) in
          let clash : clash_with book e s.rest ≡ blamed_unless (is_assignable (masks_of all)) all =
          clash_is book shape e s n ready all joins ∙ ap (λ o. clash_of o (length s.natives) all) unshared in
          rw (can_take book shape e s n ready, room) (ap (λ o. is_none (option_map Conflict o)) clash ∙ none_of_clash (is_assignable (masks_of all)) all)
      go false is =
          let full = full_of_natives book shape e s n ready all joins (grind (arith, nat_tests, is)) in
          ap is_none (refused_full book shape e s n ready all joins full)
