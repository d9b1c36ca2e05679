-- A new core stands for each opening account of its thread.
use Rattle.thread_core.proofs.Words.{ℕ, replicate, None, ◌≡◌, refl, ◌+◌, Book, Widths, List, Occ, ap, ◌∷◌, units_from, map, empty_unit, [], UnitView}
use Rattle.thread_core.proofs.Words.{IsShape, CoreStands, sym, BookFits, AgreesWith, arith, done, slice_get, Some, ◌++◌, drop, ◌∙◌, ◌<◌, inl, inr}
use Rattle.thread_core.proofs.Words.{subst, opening_core, opening, append_assoc, drop_at, cases_lt, opening_within, opening_apart, opening_fits}
use Rattle.thread_core.proofs.Words.{MOST_SETS, Mark}

no_units : (book : Book) (past : List Occ) (comp : ℕ) (shape : Widths) → units_from book past (replicate MOST_SETS None) comp shape ≡ map empty_unit shape
no_units book past comp [] = refl
no_units book past comp (ws ∷ shape) = ap (λ us. empty_unit ws ∷ us) (no_units book past (comp + 1) shape)

pub opening_stands : (book : Book) (thread : ℕ) (shape : Widths) (rest : List Occ) (mark : Mark) → IsShape shape → CoreStands book (opening_core thread shape) (opening thread rest mark)
opening_stands book thread shape rest mark shapely = record {
  thread = refl;
  registered = refl;
  slots = refl;
  units = sym (no_units book [] 0 shape);
  taken = refl;
  last = refl;
  places = refl;
  rises = tt;
  within = opening_within thread rest mark;
  apart = opening_apart thread rest mark;
  fit = opening_fits book shape thread rest mark;
  shape = shapely;
  in_limits = omega arith;
}

pub opening_agrees : (book : Book) (thread : ℕ) (shape : Widths) (rest : List Occ) (mark : Mark) → IsShape shape → BookFits shape book → AgreesWith book (opening_core thread shape)
opening_agrees book thread shape rest mark shapely fits =
    record { fits = fits; account = opening thread rest mark; stands = opening_stands book thread shape rest mark shapely; in_time = omega arith }

-- one unit more
pub unit_more : (shape : Widths) (done all : List UnitView) (i : ℕ) (ws : List ℕ) → slice_get shape i ≡ Some ws → done ++ map empty_unit (drop i shape) ≡ all → (done ++ empty_unit ws ∷ []) ++ map empty_unit (drop (i + 1) shape) ≡ all
unit_more shape done all i ws e h =
    append_assoc done (empty_unit ws ∷ []) (map empty_unit (drop (i + 1) shape)) ∙ sym (ap (λ xs. done ++ map empty_unit xs) (drop_at shape i ws e)) ∙ h

-- what holds of those before i, and of the one at i
pub one_more : (P : List ℕ → Type 0) (shape : Widths) (i : ℕ) (ws : List ℕ) → slice_get shape i ≡ Some ws → P ws → ((c : ℕ) (widths : List ℕ) → c < i → slice_get shape c ≡ Some widths → P widths)
    → (c : ℕ) (widths : List ℕ) → c < i + 1 → slice_get shape c ≡ Some widths → P widths
one_more P shape i ws e p h c widths below f = elim (cases_lt c i) [
  | inl lt ↦ h c widths lt f
  | inr ge ↦ (let same : c ≡ i = omega arith in let is : Some ws ≡ Some widths = sym e ∙ ap (slice_get shape) (sym same) ∙ f in let one : ws ≡ widths = cc in subst P one p)
]
