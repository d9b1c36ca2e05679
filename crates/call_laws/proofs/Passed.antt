-- What the model notes of sets at an occurrence is what the law does.
use Rattle.call_laws.proofs.Words.{nat_tests, ◌≡◌, ℕ, zero, suc, ◌+◌, ◌/◌, ◌≤◌, Bool, true, false, List, [], ◌∷◌, ◌++◌, length, refl, sym, ap, ap₂}
use Rattle.call_laws.proofs.Words.{subst, ◌∙◌, arith, Option, Some, None, slice_get, flat_map, range_with_len, option_and_then, option_map_or, lt-ltb}
use Rattle.call_laws.proofs.Words.{drop-append-le, EventRef, Native, Occ, weight_of, Note, Book, lead, Kept, last_after, in_window, at, OccAfter}
use Rattle.call_laws.proofs.Words.{placed_after, count_over, Moment, passing_indexes, reaches_more}
use Rattle.std.specs.Prelude.{◌&&◌, filter, if◌then◌else◌, nat_lt, slice_index_or}
use Rattle.session_model.specs.Thresholds.{notes_at, notes_of_place, passed_from, passes as model_passes}
use Rattle.call_laws.proofs.Windows.{length-placed, weighed_is}

-- ---- one more occurrence

-- the occurrence that comes after these
abbrev pub next : List Occ → Occ → OccAfter
next past o = record { before = last_after None past; occ = o }

placed-more : (before : Option Occ) (past : List Occ) (o : Occ) → placed_after before (past ++ o ∷ []) ≡ placed_after before past ++ record { before = last_after before past; occ = o } ∷ []
placed-more before [] o = refl
placed-more before (x ∷ past) o = ap (λ ps. record { before = before; occ = x } ∷ ps) (placed-more (Some x) past o)

-- a set that runs has it in its window
pub window-next : (s : Kept) (past : List Occ) (o : Occ) → s.running ≡ true → s.from ≤ length past
    → in_window s (placed_after None (past ++ o ∷ [])) ≡ in_window s (placed_after None past) ++ next past o ∷ []
window-next s past o runs from_in = rw (runs, placed-more None past o) (drop-append-le s.from (placed_after None past) (next past o ∷ []) (omega (arith, from_in, length-placed None past)))

-- ---- the events of one set

-- a set at the occurrence that comes after these
abbrev pub moment_of : Kept → List Occ → Occ → Moment
moment_of s past o = record { set = s.set; so_far = in_window s (placed_after None past); now = next past o }

passes_is : (past : List Occ) (s : Kept) (o : Occ) (native : Option Native) (t : ℕ) → s.running ≡ true → s.from ≤ length past
    → (nat_lt 0 t && option_map_or (reaches_more (moment_of s past o) t) native false) ≡ model_passes past s o native t
passes_is past s o None zero runs from_in = refl
passes_is past s o (Some n) zero runs from_in = refl
passes_is past s o None (suc t) runs from_in = rw (lt-ltb 0 (suc t) (omega arith)) refl
passes_is past s o (Some n) (suc t) runs from_in = rw (lt-ltb 0 (suc t) (omega arith)) (ap₂ (λ (a b : ℕ). nat_lt (a / suc t) (b / suc t))
    (sym (weighed_is (weight_of n s.set.domain) past s))
    (ap (λ os. count_over s.set os n) (sym (window-next s past o runs from_in)) ∙ sym (weighed_is (weight_of n s.set.domain) (past ++ o ∷ []) s)))

none_at : (test : ℕ → Bool) (i n : ℕ) → ((j : ℕ) → test (i + j) ≡ false) → filter test (range_with_len i n) ≡ []
none_at test i zero h = refl
none_at test i (suc n) h = rw first (none_at test (i + 1) n (λ j. subst (λ k. test k ≡ false) (omega arith) (h (suc j)))) where
  first : test i ≡ false
  first = subst (λ k. test k ≡ false) (omega arith) (h 0)

-- one place of a list that is tested place by place
tested : {X : Type 0} (b : Bool) (x : X) (xs : List X) → (if b then x ∷ [] else []) ++ xs ≡ (if b then x ∷ xs else xs)
tested b x xs = grind (arith, nat_tests)

passed_is : (book : Book) (past : List Occ) (s : Kept) (o : Occ) (test : ℕ → Bool) (i : ℕ) (es : List EventRef) (ts : List ℕ)
    → ((j : ℕ) → test (i + j) ≡ model_passes past s o (option_and_then (lead book) (slice_get es j)) (slice_index_or ts j 0))
    → passed_from book past s o i es ts ≡ filter test (range_with_len i (length es))
passed_is book past s o test i [] ts h = refl
passed_is book past s o test i (e ∷ es) [] h = sym (none_at test i (suc (length es)) h)
passed_is book past s o test i (e ∷ es) (t ∷ ts) h =
    ap (λ is. (if model_passes past s o (lead book e) t then i ∷ [] else []) ++ is)
    (passed_is book past s o test (i + 1) es ts (λ j. subst (λ k. test k ≡ model_passes past s o (option_and_then (lead book) (slice_get es j)) (slice_index_or ts j 0)) (omega arith) (h (suc j))))
    ∙ tested (model_passes past s o (lead book e) t) i (filter test (range_with_len (i + 1) (length es)))
    ∙ ap (λ b. if b then i ∷ filter test (range_with_len (i + 1) (length es)) else filter test (range_with_len (i + 1) (length es))) (sym first) where
      first : test i ≡ model_passes past s o (lead book e) t
      first = subst (λ k. test k ≡ model_passes past s o (lead book e) t) (omega arith) (h 0)

-- the events of a running set whose thresholds are passed
pub passed_here : (book : Book) (past : List Occ) (s : Kept) (o : Occ) → s.running ≡ true → s.from ≤ length past
    → passed_from book past s o 0 s.set.events s.set.thresholds ≡ passing_indexes book (moment_of s past o)
passed_here book past s o runs from_in = grind (arith, nat_tests, passed_is, passes_is)

-- ---- the places of all sets

pub noted_is : (book : Book) (thread : ℕ) (past : List Occ) (o : Occ) (test : ℕ → Bool) (notes : ℕ → List Note) (number : ℕ) (places : List (Option Kept))
    → ((j : ℕ) → notes_of_place book thread past o (number + j) (at places j) ≡ (if test (number + j) then notes (number + j) else []))
    → notes_at book thread past o number places ≡ flat_map notes (filter test (range_with_len number (length places)))
noted_is book thread past o test notes number [] h = refl
noted_is book thread past o test notes number (place ∷ places) h =
    ap₂ (λ (a b : List Note). a ++ b) first
    (noted_is book thread past o test notes (number + 1) places (λ j. subst (λ k. notes_of_place book thread past o k (at places j) ≡ (if test k then notes k else [])) (omega arith) (h (suc j))))
    ∙ go (test number) refl where
      first : notes_of_place book thread past o number place ≡ (if test number then notes number else [])
      first = subst (λ k. notes_of_place book thread past o k place ≡ (if test k then notes k else [])) (omega arith) (h 0)

      go : (b : Bool) → test number ≡ b → (if test number then notes number else []) ++ flat_map notes (filter test (range_with_len (number + 1) (length places)))
          ≡ flat_map notes (filter test (number ∷ range_with_len (number + 1) (length places)))
      go true e = rw e refl
      go false e = rw e refl
