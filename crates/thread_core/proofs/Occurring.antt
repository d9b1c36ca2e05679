-- What an occurrence does to all units and all sets is what is kept after one occurrence more.
use Rattle.thread_core.proofs.Words.{Book, Widths, List, Occ, Kept, slot_of, ◌++◌, ◌∷◌, [], ◌≡◌, ℕ, true, running_registers, IsFit, IsWithin, length}
use Rattle.thread_core.proofs.Words.{runs_on, Some, face_of, false, cases_Bool, ◌≤◌, arith, ◌⊎◌, inl, runs, ap, ◌∙◌, inr, Option, AreFit, AllWithin}
use Rattle.thread_core.proofs.Words.{Register, sym, owner_from, faces_of, refl, registers_by, runner, None, same_some, CountedAll, units_of, slots_of}
use Rattle.thread_core.proofs.Words.{notes_at, map, note, slice_get, ◌+◌, suc, zero, map_same_on, option_map, cases_eq, unit_at, widths_at, unwrap_or}
use Rattle.thread_core.proofs.Words.{IsShape, AreApart, counted_over, last_after, subst, get_at, get-map_some, Counted, counted_at, Slot}
use Rattle.thread_core.proofs.Words.{counted_place, some-at, here, slice_set, slice_get_within, if◌then◌else◌, ◌==◌, ne_eqb, Bool, passed_from}
use Rattle.thread_core.proofs.Words.{counted_all, passed_in, Note, get-map, append-nil}
use Rattle.thread_core.proofs.Squares.{elsewhere, slot_elsewhere, passing_elsewhere, registers_elsewhere, stopped_stays, unit_by, after, counted_follows}
use Rattle.thread_core.proofs.Owners.{IsSameUnit, units_same, get-units, units_put, put_as, runner-none, runs_by, quiet_other, runner-some, quiet_none, Runs, other_runs, faces_same}
use Rattle.thread_core.proofs.Weighing.{within_at}
use Rattle.thread_slots.specs.Counted.{uncounted, CountedPlace, placed}

-- a set that does not run on the component of the occurrence is kept as it is, and passes no threshold
pub record Stays (book : Book) (shape : Widths) (past : List Occ) (o : Occ) (s : Kept) : Type 0 where
  pub slot : slot_of book shape (past ++ o ∷ []) s ≡ slot_of book shape past s
  pub silent : passed_in s.running book past s o ≡ []
  pub registers : (widths : List ℕ) → s.running ≡ true → running_registers book widths (past ++ o ∷ []) s s.set.slice ≡ running_registers book widths past s s.set.slice

pub stays : (book : Book) (shape : Widths) (past : List Occ) (o : Occ) (s : Kept) → IsFit book shape s.set → IsWithin (length past) s → runs_on (Some o.comp) (Some (face_of s)) ≡ false → Stays book shape past o s
stays book shape past o s fit w not_here = go (cases_Bool s.running) where
  inside : s.from ≤ length past
  inside = let a = w.in_order in let b = w.past in omega arith

  go : (s.running ≡ true) ⊎ (s.running ≡ false) → Stays book shape past o s
  go (inl runs) =
      let h = elsewhere book shape o s fit runs not_here in
      record {
        slot = slot_elsewhere book shape past o s h inside;
        silent = ap (λ b. passed_in b book past s o) runs ∙ passing_elsewhere book shape past o s h inside;
        registers = λ widths r. registers_elsewhere book widths past o s s.set.slice h inside;
      }
  go (inr stopped) = record {
    slot = stopped_stays book shape past o s stopped w;
    silent = ap (λ b. passed_in b book past s o) stopped;
    registers = λ widths r. absurd (cc);
  }

-- the unit of another component stays
other_unit : (book : Book) (shape : Widths) (past : List Occ) (o : Occ) (sets : List (Option Kept)) (c : ℕ) → AreFit book shape sets → AllWithin (length past) sets → (c ≡ o.comp → ⊥) → IsSameUnit book past (past ++ o ∷ []) sets sets c
other_unit book shape past o sets c fit within apart ws = ap (λ (rs : List (Option Register)). record { widths = ws; registers = rs }) (sym (go (owner_from c 0 (faces_of sets)) refl)) where
  go : (m : Option ℕ) → owner_from c 0 (faces_of sets) ≡ m → registers_by book ws (past ++ o ∷ []) (runner c sets) ≡ registers_by book ws past (runner c sets)
  go None e = rw (runner-none sets c e) refl
  go (Some k) e =
      let r = runs_by sets c k e in
      let elsewhere = quiet_other r.set o.comp (λ is. apart (same_some c o.comp (sym r.component ∙ is))) in
      let h = stays book shape past o r.set (fit.fit k r.set r.at) (within_at (length past) sets k r.set within r.at) elsewhere in
      rw (runner-some sets c k r.set e r.at) (h.registers ws r.running)

-- if no set runs on the occurrence's component, all stays
pub record AllFollow (book : Book) (shape : Widths) (past : List Occ) (o : Occ) (sets : List (Option Kept)) (c : CountedAll) : Type 0 where
  pub units : c.units ≡ units_of book shape (past ++ o ∷ []) sets
  pub slots : c.slots ≡ slots_of book shape (past ++ o ∷ []) sets
  pub notes : (thread : ℕ) → notes_at book thread past o 0 sets ≡ map (note thread c.set o) c.passed

notes_none : (book : Book) (thread : ℕ) (past : List Occ) (o : Occ) (number : ℕ) (sets : List (Option Kept)) → ((i : ℕ) (s : Kept) → slice_get sets i ≡ Some (Some s) → passed_in s.running book past s o ≡ []) → notes_at book thread past o number sets ≡ []
notes_none book thread past o number [] h = refl
notes_none book thread past o number (None ∷ sets) h = notes_none book thread past o (number + 1) sets (λ i s e. h (suc i) s e)
notes_none book thread past o number (Some s ∷ sets) h =
    ap (λ (xs : List ℕ). map (note thread number o) xs ++ notes_at book thread past o (number + 1) sets) (h 0 s refl) ∙ notes_none book thread past o (number + 1) sets (λ i t e. h (suc i) t e)

notes_one : (book : Book) (thread : ℕ) (past : List Occ) (o : Occ) (number : ℕ) (sets : List (Option Kept)) (k : ℕ) (s : Kept) → slice_get sets k ≡ Some (Some s)
    → ((i : ℕ) (t : Kept) → (i ≡ k → ⊥) → slice_get sets i ≡ Some (Some t) → passed_in t.running book past t o ≡ []) → notes_at book thread past o number sets ≡ map (note thread (number + k) o) (passed_in s.running book past s o)
notes_one book thread past o number [] k s e h = cc
notes_one book thread past o number (place ∷ sets) zero s e h =
    let same : place ≡ Some s = cc in
    let at_number : number ≡ number + 0 = omega arith in
    let rest = notes_none book thread past o (number + 1) sets (λ i t f. h (suc i) t (λ z. absurd (omega arith)) f) in
    ap (λ p. notes_at book thread past o number (p ∷ sets)) same
    ∙ ap (λ (xs : List Note). map (note thread number o) (passed_in s.running book past s o) ++ xs) rest
    ∙ append-nil (map (note thread number o) (passed_in s.running book past s o))
    ∙ ap (λ (n : ℕ). map (note thread n o) (passed_in s.running book past s o)) at_number
notes_one book thread past o number (None ∷ sets) (suc k) s e h =
    let at_number : number + 1 + k ≡ number + suc k = omega arith in
    notes_one book thread past o (number + 1) sets k s e (λ i t apart f. h (suc i) t (λ z. apart (omega arith)) f) ∙ ap (λ (n : ℕ). map (note thread n o) (passed_in s.running book past s o)) at_number
notes_one book thread past o number (Some t ∷ sets) (suc k) s e h =
    let at_number : number + 1 + k ≡ number + suc k = omega arith in
    ap (λ (xs : List ℕ). map (note thread number o) xs ++ notes_at book thread past o (number + 1) sets) (h 0 t (λ z. absurd (omega arith)) refl)
    ∙ notes_one book thread past o (number + 1) sets k s e (λ i u apart f. h (suc i) u (λ z. apart (omega arith)) f) ∙ ap (λ (n : ℕ). map (note thread n o) (passed_in s.running book past s o)) at_number

none_follows : (book : Book) (shape : Widths) (past : List Occ) (o : Occ) (sets : List (Option Kept)) → AreFit book shape sets → AllWithin (length past) sets → owner_from o.comp 0 (faces_of sets) ≡ None
    → AllFollow book shape past o sets (uncounted (units_of book shape past sets) (slots_of book shape past sets))
none_follows book shape past o sets fit within none = record {
  units = units_same book shape past (past ++ o ∷ []) sets sets unit;
  slots = map_same_on (option_map (slot_of book shape past)) (option_map (slot_of book shape (past ++ o ∷ []))) sets place;
  notes = λ thread. notes_none book thread past o 0 sets (λ i s e. (stay i s e).silent);
} where
  stay : (i : ℕ) (s : Kept) → slice_get sets i ≡ Some (Some s) → Stays book shape past o s
  stay i s e = stays book shape past o s (fit.fit i s e) (within_at (length past) sets i s within e) (quiet_none sets o.comp i (Some s) none e)

  place : (i : ℕ) (p : Option Kept) → slice_get sets i ≡ Some p → option_map (slot_of book shape past) p ≡ option_map (slot_of book shape (past ++ o ∷ [])) p
  place i None e = refl
  place i (Some s) e = ap Some (sym (stay i s e).slot)

  unit : (c : ℕ) → IsSameUnit book past (past ++ o ∷ []) sets sets c
  unit c = elim (cases_eq c o.comp) [
    | inl same ↦ (λ ws. rw (runner-none sets c (ap (λ (k : ℕ). owner_from k 0 (faces_of sets)) same ∙ none)) refl)
    | inr apart ↦ other_unit book shape past o sets c fit within apart
  ]

-- the unit of the set that runs on the component
unit_at-by : (book : Book) (shape : Widths) (past : List Occ) (o : Occ) (sets : List (Option Kept)) (k : ℕ) (ws : List ℕ) (s : Kept) → owner_from o.comp 0 (faces_of sets) ≡ Some k → slice_get sets k ≡ Some (Some s) → s.set.component ≡ Some o.comp → slice_get shape o.comp ≡ Some ws
    → unit_at book past sets o.comp ws ≡ unit_by book shape past s
unit_at-by book shape past o sets k ws s e at_k comp at_comp =
    let widths : ws ≡ widths_at shape s.set.component = sym (ap (widths_at shape) comp ∙ ap (λ (x : Option (List ℕ)). unwrap_or x []) at_comp) in
    ap (λ (x : Option Kept). record { widths = ws; registers = registers_by book ws past x }) (runner-some sets o.comp k s e at_k)
    ∙ ap (λ (w : List ℕ). record { widths = w; registers = running_registers book w past s s.set.slice }) widths

some_follows : (book : Book) (shape : Widths) (past : List Occ) (o : Occ) (sets : List (Option Kept)) (k : ℕ) → IsShape shape → AreFit book shape sets → AllWithin (length past) sets → AreApart (faces_of sets) → o.amount ≤ 255 → owner_from o.comp 0 (faces_of sets) ≡ Some k
    → AllFollow book shape past o sets (counted_over (last_after None past) o (units_of book shape past sets) (slots_of book shape past sets) (Some k))
some_follows book shape past o sets k shapely fit within apart small e = subst (AllFollow book shape past o sets) (sym counting) (record { units = units; slots = slots; notes = notes }) where
  more : List Occ
  more = past ++ o ∷ []

  r : Runs sets o.comp k
  r = runs_by sets o.comp k e

  s : Kept
  s = r.set

  fit_s : IsFit book shape r.set.set
  fit_s = fit.fit k r.set r.at

  inside : r.set.from ≤ length past
  inside = let w = within_at (length past) sets k r.set within r.at in let a = w.in_order in let b = w.past in omega arith

  widths : (ws : List ℕ) × (slice_get shape o.comp ≡ Some ws)
  widths = get_at shape o.comp (fit_s.has_component o.comp r.component)

  unit_is : (p : List Occ) → unit_at book p sets o.comp widths.0 ≡ unit_by book shape p r.set
  unit_is p = unit_at-by book shape p o sets k widths.0 r.set e r.at r.component widths.1

  unit_now : (p : List Occ) → slice_get (units_of book shape p sets) o.comp ≡ Some (unit_by book shape p r.set)
  unit_now p = get-units book shape p sets o.comp ∙ ap (option_map (unit_at book p sets o.comp)) widths.1 ∙ ap Some (unit_is p)

  slot_now : (p : List Occ) → slice_get (slots_of book shape p sets) k ≡ Some (Some (slot_of book shape p r.set))
  slot_now p = get-map_some (option_map (slot_of book shape p)) sets k (Some r.set) r.at

  new : Counted
  new = after book shape past o r.set

  the_place : Counted → CountedPlace
  the_place c = record { unit = c.unit; place = Some c.slot; passed = c.passed }

  result : CountedAll
  result = placed o.comp k (units_of book shape past sets) (slots_of book shape past sets) (the_place new)

  counting : counted_over (last_after None past) o (units_of book shape past sets) (slots_of book shape past sets) (Some k) ≡ result
  counting =
      ap (counted_at (last_after None past) o (units_of book shape past sets) (slots_of book shape past sets) k) (unit_now past)
      ∙ ap (λ (p : Option Slot). placed o.comp k (units_of book shape past sets) (slots_of book shape past sets) (counted_place (last_after None past) o (unit_by book shape past r.set) p)) (some-at (slots_of book shape past sets) k (slot_of book shape past r.set) (slot_now past))
      ∙ ap (λ (c : Counted). placed o.comp k (units_of book shape past sets) (slots_of book shape past sets) (the_place c)) (counted_follows book shape past o r.set shapely fit_s r.running inside small)

  stay : (i : ℕ) (t : Kept) → (i ≡ k → ⊥) → slice_get sets i ≡ Some (Some t) → Stays book shape past o t
  stay i t other f = stays book shape past o t (fit.fit i t f) (within_at (length past) sets i t within f) (go (cases_Bool (runs_on (Some o.comp) (Some (face_of t))))) where
    go : (runs_on (Some o.comp) (Some (face_of t)) ≡ true) ⊎ (runs_on (Some o.comp) (Some (face_of t)) ≡ false) → runs_on (Some o.comp) (Some (face_of t)) ≡ false
    go (inl here) = absurd (other (other_runs sets o.comp i k t r.set apart f r.at here r.here))
    go (inr none) = none

  slot : (i : ℕ) (p : Option (Option Kept)) → slice_get sets i ≡ p → (i ≡ k → ⊥) → option_map (option_map (slot_of book shape past)) p ≡ option_map (option_map (slot_of book shape (past ++ o ∷ []))) p
  slot i None f other = refl
  slot i (Some None) f other = refl
  slot i (Some (Some t)) f other = ap (λ (x : Slot). Some (Some x)) (sym (stay i t other f).slot)

  units : slice_set (units_of book shape past sets) o.comp (unit_by book shape (past ++ o ∷ []) r.set) ≡ units_of book shape (past ++ o ∷ []) sets
  units =
      ap (slice_set (units_of book shape past sets) o.comp) (sym (unit_is (past ++ o ∷ [])))
      ∙ units_put book shape past (past ++ o ∷ []) sets sets o.comp widths.0 widths.1 (λ c other. other_unit book shape past o sets c fit within other)

  slots : slice_set (slots_of book shape past sets) k (Some (slot_of book shape (past ++ o ∷ []) r.set)) ≡ slots_of book shape (past ++ o ∷ []) sets
  slots = put_as (slots_of book shape past sets) (slots_of book shape (past ++ o ∷ []) sets) k _ (slice_get_within _ k _ (slot_now past)) (slot_now (past ++ o ∷ []))
      (λ i other. get-map (option_map (slot_of book shape past)) sets i ∙ slot i (slice_get sets i) refl other ∙ sym (get-map (option_map (slot_of book shape (past ++ o ∷ []))) sets i))

  the_set : (passed : List ℕ) (thread : ℕ) → map (note thread k o) passed ≡ map (note thread (if length passed == 0 then 0 else k) o) passed
  the_set [] thread = refl
  the_set (x ∷ xs) thread = let some : (length (x ∷ xs) == 0) ≡ false = ne_eqb (length (x ∷ xs)) 0 (λ z. absurd (omega arith)) in ap (λ (b : Bool). map (note thread (if b then 0 else k) o) (x ∷ xs)) (sym some)

  notes : (thread : ℕ) → notes_at book thread past o 0 sets ≡ map (note thread result.set o) result.passed
  notes thread =
      let number : 0 + k ≡ k = omega arith in
      notes_one book thread past o 0 sets k r.set r.at (λ i t other f. (stay i t other f).silent)
      ∙ ap (λ (n : ℕ). map (note thread n o) (passed_in r.set.running book past r.set o)) number
      ∙ ap (λ (b : Bool). map (note thread k o) (passed_in b book past r.set o)) r.running
      ∙ the_set (passed_from book past r.set o 0 r.set.set.events r.set.set.thresholds) thread

pub all_follow : (book : Book) (shape : Widths) (past : List Occ) (o : Occ) (sets : List (Option Kept)) → IsShape shape → AreFit book shape sets → AllWithin (length past) sets → AreApart (faces_of sets) → o.amount ≤ 255
    → AllFollow book shape past o sets (counted_all (last_after None past) o (units_of book shape past sets) (slots_of book shape past sets))
all_follow book shape past o sets shapely fit within apart small = subst (λ f. AllFollow book shape past o sets (counted_over (last_after None past) o (units_of book shape past sets) (slots_of book shape past sets) (owner_from o.comp 0 f))) (sym (faces_same book shape past sets)) (go (owner_from o.comp 0 (faces_of sets)) refl) where
  go : (m : Option ℕ) → owner_from o.comp 0 (faces_of sets) ≡ m → AllFollow book shape past o sets (counted_over (last_after None past) o (units_of book shape past sets) (slots_of book shape past sets) (owner_from o.comp 0 (faces_of sets)))
  go None e = subst (λ m. AllFollow book shape past o sets (counted_over (last_after None past) o (units_of book shape past sets) (slots_of book shape past sets) m)) (sym e) (none_follows book shape past o sets fit within e)
  go (Some k) e = subst (λ m. AllFollow book shape past o sets (counted_over (last_after None past) o (units_of book shape past sets) (slots_of book shape past sets) m)) (sym e) (some_follows book shape past o sets k shapely fit within apart small e)
