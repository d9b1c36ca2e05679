-- How many notes there are of an event.
use Rattle.call_laws.proofs.Words.{rules, nat_tests, ◌≡◌, ◌≢◌, ℕ, zero, suc, ◌+◌, ◌/◌, ◌<◌, ◌≤◌, inl, inr, Bool, true, false, List, [], ◌∷◌, ◌++◌}
use Rattle.call_laws.proofs.Words.{length, drop, map, refl, sym, ap, subst, ◌∙◌, arith, Option, Some, None, slice_get, flat_map, range_with_len}
use Rattle.call_laws.proofs.Words.{option_and_then, option_map_or, add-mul, div-mul-le_self, lt-div-mul-add, zero-add, zero-div, div_below, le-div}
use Rattle.call_laws.proofs.Words.{both_ways, cases_lt, eq-eqb, le-ltb, lt-ltb, ne_eqb, eqb_tells, flat_map_single, All-cons, All-drop, All-head}
use Rattle.call_laws.proofs.Words.{All-nil, All-tail, All-take, filter-append, sum_by-append, LARGEST_AMOUNT, LEAST_THRESHOLD, MOST_SETS, EventRef}
use Rattle.call_laws.proofs.Words.{Native, Occ, weight_of, weight_of-le, Note, Book, lead, AtRest, Call, CallReply, OccAfter, Thread, answered, makes}
use Rattle.call_laws.proofs.Words.{newly_taken, placed_after, taken, taken_by, count_over, Moment, OneNoteForEach, first_native, is_note_of, moment}
use Rattle.call_laws.proofs.Words.{note_of, notes_of_call, notes_of_occ, notes_of_run, notes_of_set, passes, passings_since, reaches_more}
use Rattle.call_laws.proofs.Words.{threshold_at, changed, holds_after, is_zeroing, runs_now, set_now, zeroes, window}
use Rattle.std.specs.Prelude.{◌&&◌, All, filter, if◌then◌else◌, nat_lt}
use Rattle.std.proofs.lemmas.List.{append-nil, append_assoc, length-append, map-append}
use Rattle.call_type.specs.declared.call.Call.TheVariants as call
use Rattle.call_laws.proofs.Armed.{is_armed}
use Rattle.call_laws.proofs.Histories.{set_now-changed, set_now-other, window-running, window-stays, window-zeroing, zeroes-changed}

-- ---- how many notes pass a test

abbrev how_many : (Note → Bool) → List Note → ℕ
how_many test notes = length (filter test notes)

how_many-append : (test : Note → Bool) (xs ys : List Note) → how_many test (xs ++ ys) ≡ how_many test xs + how_many test ys
how_many-append test xs ys = ap length (filter-append test xs ys) ∙ length-append (filter test xs) (filter test ys)

-- notes come by number, and only those of this number pass
abbrev OnlyAt : (Note → Bool) → (ℕ → List Note) → ℕ → Type 0
OnlyAt test notes k = (j : ℕ) → j ≢ k → how_many test (notes j) ≡ 0

-- the numbers of a range are past it
none_past : (test : Note → Bool) (notes : ℕ → List Note) (chosen : ℕ → Bool) (k a n : ℕ) → OnlyAt test notes k → k < a
    → how_many test (flat_map notes (filter chosen (range_with_len a n))) ≡ 0
none_past test notes chosen k a zero only past = refl
none_past test notes chosen k a (suc n) only past =
    go (chosen a) refl (only a (λ e. omega (arith, past, e))) (none_past test notes chosen k (a + 1) n only (omega (arith, past))) where
      rest : List Note
      rest = flat_map notes (filter chosen (range_with_len (a + 1) n))

      go : (b : Bool) → chosen a ≡ b → how_many test (notes a) ≡ 0 → how_many test rest ≡ 0 → how_many test (flat_map notes (filter chosen (a ∷ range_with_len (a + 1) n))) ≡ 0
      go true c here later = rw c (how_many-append test (notes a) rest ∙ omega (arith, here, later))
      go false c here later = rw c later

-- the range begins with it
at_first : (test : Note → Bool) (notes : ℕ → List Note) (chosen : ℕ → Bool) (k n : ℕ) → OnlyAt test notes k
    → how_many test (flat_map notes (filter chosen (k ∷ range_with_len (k + 1) n))) ≡ (if chosen k then how_many test (notes k) else 0)
at_first test notes chosen k n only = go (chosen k) refl (none_past test notes chosen k (k + 1) n only (omega arith)) where
  rest : List Note
  rest = flat_map notes (filter chosen (range_with_len (k + 1) n))

  go : (b : Bool) → chosen k ≡ b → how_many test rest ≡ 0
      → how_many test (flat_map notes (filter chosen (k ∷ range_with_len (k + 1) n))) ≡ (if chosen k then how_many test (notes k) else 0)
  go true c none = rw c (how_many-append test (notes k) rest ∙ omega (arith, none))
  go false c none = rw c none

-- the range has it
only_at : (test : Note → Bool) (notes : ℕ → List Note) (chosen : ℕ → Bool) (k a n : ℕ) → OnlyAt test notes k → a ≤ k → k < a + n
    → how_many test (flat_map notes (filter chosen (range_with_len a n))) ≡ (if chosen k then how_many test (notes k) else 0)
only_at test notes chosen k a zero only from below = absurd (omega (arith, from, below))
only_at test notes chosen k a (suc n) only from below = elim (eqb_tells a k) [
  | inl e ↦ subst (λ b. how_many test (flat_map notes (filter chosen (b ∷ range_with_len (b + 1) n))) ≡ (if chosen k then how_many test (notes k) else 0)) (sym e.1) (at_first test notes chosen k n only)
  | inr e ↦ go (chosen a) refl (only a e.1) (only_at test notes chosen k (a + 1) n only (omega (arith, from, e.1)) (omega (arith, below)))
] where
  rest : List Note
  rest = flat_map notes (filter chosen (range_with_len (a + 1) n))

  go : (b : Bool) → chosen a ≡ b → how_many test (notes a) ≡ 0 → how_many test rest ≡ (if chosen k then how_many test (notes k) else 0)
      → how_many test (flat_map notes (filter chosen (a ∷ range_with_len (a + 1) n))) ≡ (if chosen k then how_many test (notes k) else 0)
  go true c none h = rw c (how_many-append test (notes a) rest ∙ ap (λ m. m + how_many test rest) none ∙ zero-add (how_many test rest) ∙ h)
  go false c none h = rw c h

-- ---- one occurrence

-- the notes of another index, and of another set
other_index : (thread k i : ℕ) (o : Occ) → OnlyAt (is_note_of k i) (λ j. note_of thread k o j ∷ []) i
other_index thread k i o j apart = rw (eq-eqb k k refl, ne_eqb j i apart) refl

other_set : (t : Thread) (log : List CallReply) (before : List OccAfter) (p : OccAfter) (k i : ℕ) → OnlyAt (is_note_of k i) (notes_of_set t log before p) k
other_set t log before p k i j apart = go (filter (passes t.book (moment t log before p j)) (range_with_len 0 (length (set_now t.book j log).events))) where
  go : (is : List ℕ) → how_many (is_note_of k i) (map (note_of t.number j p.occ) is) ≡ 0
  go [] = refl
  go (x ∷ is) = rw (ne_eqb j k apart) (go is)

-- the notes of the event of a set that runs
in_set : (t : Thread) (log : List CallReply) (before : List OccAfter) (p : OccAfter) (k i : ℕ) → i < length (set_now t.book k log).events
    → how_many (is_note_of k i) (notes_of_set t log before p k) ≡ (if passes t.book (moment t log before p k) i then 1 else 0)
in_set t log before p k i below =
    let chosen = passes t.book (moment t log before p k) in
    let size = length (set_now t.book k log).events in
    ap (how_many (is_note_of k i)) (sym (flat_map_single (note_of t.number k p.occ) (filter chosen (range_with_len 0 size))))
    ∙ only_at (is_note_of k i) (λ j. note_of t.number k p.occ j ∷ []) chosen i 0 size (other_index t.number k i p.occ) (omega arith) (omega (arith, below))
    ∙ ap (λ m. if chosen i then m else 0) own where
      own : how_many (is_note_of k i) (note_of t.number k p.occ i ∷ []) ≡ 1
      own = rw (eq-eqb k k refl, eq-eqb i i refl) refl

in_all : (t : Thread) (log : List CallReply) (before : List OccAfter) (p : OccAfter) (k i : ℕ) → k < MOST_SETS
    → how_many (is_note_of k i) (notes_of_occ t log before p) ≡ (if runs_now k log then how_many (is_note_of k i) (notes_of_set t log before p k) else 0)
in_all t log before p k i few = only_at (is_note_of k i) (notes_of_set t log before p) (λ j. runs_now j log) k 0 MOST_SETS (other_set t log before p k i) (omega arith) (omega (arith, few))

-- ---- counts

count-append : (s : AtRest) (n : Native) (xs ys : List OccAfter) → count_over s (xs ++ ys) n ≡ count_over s xs n + count_over s ys n
count-append s n xs ys = grind (arith, nat_tests, map-append, sum_by-append)

-- the multiples of a threshold that one occurrence takes a count past
one_more : (t c d w : ℕ) → d ≡ c + w → w < t → (if nat_lt (c / t) (d / t) then 1 else 0) + c / t ≡ d / t
one_more t c d w e small = search (rules, cases_lt, lt-ltb, le-ltb, le-div, div-mul-le_self, div_below, lt-div-mul-add, add-mul)

-- no amount is above the largest one
abbrev AmountFits : Occ → Type 0
AmountFits o = o.amount ≤ LARGEST_AMOUNT

abbrev IsSmall : OccAfter → Type 0
IsSmall p = AmountFits p.occ

-- ---- one run

-- the event at this index has a threshold on this native event
record Armed (t : Thread) (log : List CallReply) (k i : ℕ) (n : Native) : Type 0 where
  few : k < MOST_SETS
  high : LEAST_THRESHOLD ≤ threshold_at (set_now t.book k log) i
  leads : first_native t.book (set_now t.book k log) i ≡ Some n

has_index : (book : Book) (n : Native) (es : List EventRef) (i : ℕ) → option_and_then (lead book) (slice_get es i) ≡ Some n → i < length es
has_index book n [] i e = cc
has_index book n (x ∷ es) zero e = omega arith
has_index book n (x ∷ es) (suc i) e = omega (arith, has_index book n es i e)

occ_often : (t : Thread) (log : List CallReply) (before : List OccAfter) (p : OccAfter) (k i : ℕ) (n : Native) → Armed t log k i n → runs_now k log ≡ true
    → how_many (is_note_of k i) (notes_of_occ t log before p) ≡ (if reaches_more (moment t log before p k) (threshold_at (set_now t.book k log) i) n then 1 else 0)
occ_often t log before p k i n h runs =
    in_all t log before p k i h.few
    ∙ ap (λ b. if b then how_many (is_note_of k i) (notes_of_set t log before p k) else 0) runs
    ∙ in_set t log before p k i (has_index t.book n (set_now t.book k log).events i h.leads)
    ∙ ap (λ b. if b then 1 else 0) test where
      m : Moment
      m = moment t log before p k

      threshold : ℕ
      threshold = threshold_at (set_now t.book k log) i

      test : passes t.book m i ≡ reaches_more m threshold n
      test =
          ap (λ b. b && option_map_or (reaches_more m threshold) (first_native t.book m.set i) false) (lt-ltb 0 threshold (omega (arith, h.high)))
          ∙ ap (λ o. option_map_or (reaches_more m threshold) o false) h.leads

run_often : (t : Thread) (log : List CallReply) (before ps : List OccAfter) (k i : ℕ) (n : Native) → Armed t log k i n → runs_now k log ≡ true → All IsSmall ps
    → how_many (is_note_of k i) (notes_of_run t log before ps) + count_over (set_now t.book k log) (window t.stream k log ++ before) n / threshold_at (set_now t.book k log) i
    ≡ count_over (set_now t.book k log) (window t.stream k log ++ (before ++ ps)) n / threshold_at (set_now t.book k log) i
run_often t log before [] k i n h runs small = zero-add _ ∙ ap (λ os. count_over (set_now t.book k log) (window t.stream k log ++ os) n / threshold_at (set_now t.book k log) i) (sym (append-nil before))
run_often t log before (p ∷ ps) k i n h runs small =
    let first = how_many-append (is_note_of k i) (notes_of_occ t log before p) (notes_of_run t log (before ++ p ∷ []) ps) in
    let rest = run_often t log (before ++ p ∷ []) ps k i n h runs (All-tail IsSmall p ps small) in
    omega (arith, first, occ_often t log before p k i n h runs, more, shifted, rest, ended) where
      s : AtRest
      s = set_now t.book k log

      threshold : ℕ
      threshold = threshold_at s i

      so_far : List OccAfter
      so_far = window t.stream k log ++ before

      weight : ℕ
      weight = weight_of n s.domain p.before p.occ

      more : (if nat_lt (count_over s so_far n / threshold) (count_over s (so_far ++ p ∷ []) n / threshold) then 1 else 0) + count_over s so_far n / threshold
          ≡ count_over s (so_far ++ p ∷ []) n / threshold
      more = one_more threshold (count_over s so_far n) (count_over s (so_far ++ p ∷ []) n) weight (count-append s n so_far (p ∷ []) ∙ ap (λ m. count_over s so_far n + m) (zero-add weight)) (omega (arith, h.high, weight_of-le n s.domain p.before p.occ (All-head IsSmall p ps small)))

      shifted : count_over s (so_far ++ p ∷ []) n / threshold ≡ count_over s (window t.stream k log ++ (before ++ p ∷ [])) n / threshold
      shifted = ap (λ os. count_over s os n / threshold) (append_assoc (window t.stream k log) before (p ∷ []))

      ended : count_over s (window t.stream k log ++ ((before ++ p ∷ []) ++ ps)) n / threshold ≡ count_over s (window t.stream k log ++ (before ++ p ∷ ps)) n / threshold
      ended = ap (λ os. count_over s (window t.stream k log ++ os) n / threshold) (append_assoc before (p ∷ []) ps)

-- a set that does not run has no notes
run_without : (t : Thread) (log : List CallReply) (before ps : List OccAfter) (k i : ℕ) → k < MOST_SETS → runs_now k log ≡ false → how_many (is_note_of k i) (notes_of_run t log before ps) ≡ 0
run_without t log before [] k i few stopped = refl
run_without t log before (p ∷ ps) k i few stopped = grind (arith, nat_tests, in_all, how_many-append, run_without t log (before ++ p ∷ []) ps k i few stopped)

-- ---- calls

-- a call that does not zero leaves what a count depends on
not_zeroed : (book : Book) (c : Call) (s : AtRest) → is_zeroing c ≡ false → (comp : Option ℕ) × (holds_after book c s ≡ record s { component = comp })
not_zeroed book (call.AssignComponent j comp) s e = (Some comp, refl)
not_zeroed book (call.Cleanup j) s e = cc
not_zeroed book (call.Add j x) s e = cc
not_zeroed book (call.Remove j x) s e = cc
not_zeroed book (call.SetDomain j bits) s e = cc
not_zeroed book (call.SetMultiplex j slice) s e = cc
not_zeroed book (call.Overflow j x threshold) s e = cc
not_zeroed book c s e = (s.component, refl)

set_stays : (book : Book) (k : ℕ) (x : CallReply) (log : List CallReply) → zeroes k x ≡ false
    → (comp : Option ℕ) × (set_now book k (x ∷ log) ≡ record (set_now book k log) { component = comp })
set_stays book k x log z = go (makes k x) (changed k x) refl refl where
  go : (made on : Bool) → makes k x ≡ made → changed k x ≡ on → (comp : Option ℕ) × (set_now book k (x ∷ log) ≡ record (set_now book k log) { component = comp })
  go true on m c = absurd (both_ways (zeroes k x) z (rw m refl))
  go false true m c =
      let p = not_zeroed book x.call (set_now book k log) (sym (zeroes-changed k x m c) ∙ z) in
      (p.0, set_now-changed book k x log m c ∙ p.1)
  go false false m c = ((set_now book k log).component, set_now-other book k x log m c)

all_placed : (before : Option Occ) (os : List Occ) → All AmountFits os → All IsSmall (placed_after before os)
all_placed before [] h = All-nil IsSmall
all_placed before (o ∷ os) h =
    All-cons IsSmall (record { before = before; occ = o }) (placed_after (Some o) os) (All-head AmountFits o os h) (all_placed (Some o) os (All-tail AmountFits o os h))

since-zeroed : (t : Thread) (k : ℕ) (x : CallReply) (log : List CallReply) → zeroes k x ≡ true → passings_since t k (x ∷ log) ≡ []
since-zeroed t k x log z = rw z refl

since-more : (t : Thread) (k : ℕ) (x : CallReply) (log : List CallReply) → zeroes k x ≡ false → passings_since t k (x ∷ log) ≡ passings_since t k log ++ notes_of_call t x log
since-more t k x log z = rw z refl

-- the multiples of the threshold that the count over these occurrences has reached
abbrev reached : Native → ℕ → AtRest → List OccAfter → ℕ
reached n i s os = count_over s os n / threshold_at s i

-- one more call that does not zero
call_often : (t : Thread) (x : CallReply) (log : List CallReply) (k i : ℕ) (n : Native) → All AmountFits t.stream → Armed t log k i n → zeroes k x ≡ false
    → reached n i (set_now t.book k log) (window t.stream k log) + how_many (is_note_of k i) (notes_of_call t x log) ≡ reached n i (set_now t.book k log) (window t.stream k (x ∷ log))
call_often t x log k i n small h z = go (runs_now k log) refl where
  new : List OccAfter
  new = newly_taken t.stream x log

  go : (b : Bool) → runs_now k log ≡ b
      → reached n i (set_now t.book k log) (window t.stream k log) + how_many (is_note_of k i) (notes_of_call t x log) ≡ reached n i (set_now t.book k log) (window t.stream k (x ∷ log))
  go true runs =
      let all = All-drop IsSmall (taken log) (placed_after None t.stream) (all_placed None t.stream small) in
      let run = run_often t log [] new k i n h runs (All-take IsSmall (taken_by x.reply.body) (drop (taken log) (placed_after None t.stream)) all) in
      let begun = ap (reached n i (set_now t.book k log)) (append-nil (window t.stream k log)) in
      omega (arith, run, begun) ∙ ap (reached n i (set_now t.book k log)) (sym (window-running t.stream k x log z runs))
  go false stopped =
      let none = run_without t log [] new k i h.few stopped in
      omega (arith, none) ∙ ap (reached n i (set_now t.book k log)) (sym (window-stays t.stream k x log z stopped))

often : (t : Thread) (log : List CallReply) (k i : ℕ) (n : Native) → All AmountFits t.stream → Armed t log k i n
    → how_many (is_note_of k i) (passings_since t k log) ≡ reached n i (set_now t.book k log) (window t.stream k log)
often t [] k i n small h = sym (zero-div (threshold_at (set_now t.book k []) i))
often t (x ∷ log) k i n small h = go (zeroes k x) refl (λ armed. often t log k i n small armed) where
  go : (b : Bool) → zeroes k x ≡ b → (Armed t log k i n → how_many (is_note_of k i) (passings_since t k log) ≡ reached n i (set_now t.book k log) (window t.stream k log))
      → how_many (is_note_of k i) (passings_since t k (x ∷ log)) ≡ reached n i (set_now t.book k (x ∷ log)) (window t.stream k (x ∷ log))
  go true z earlier =
      ap (how_many (is_note_of k i)) (since-zeroed t k x log z)
      ∙ sym (ap (reached n i (set_now t.book k (x ∷ log))) (window-zeroing t.stream k x log z) ∙ zero-div (threshold_at (set_now t.book k (x ∷ log)) i))
  go false z earlier =
      let p = set_stays t.book k x log z in
      let armed : Armed t log k i n = record {
        few = h.few;
        high = subst (λ s. LEAST_THRESHOLD ≤ threshold_at s i) p.1 h.high;
        leads = subst (λ s. first_native t.book s i ≡ Some n) p.1 h.leads;
      } in
      ap (how_many (is_note_of k i)) (since-more t k x log z)
      ∙ how_many-append (is_note_of k i) (passings_since t k log) (notes_of_call t x log)
      ∙ ap (λ m. m + how_many (is_note_of k i) (notes_of_call t x log)) (earlier armed)
      ∙ call_often t x log k i n small armed z
      ∙ ap (λ s. reached n i s (window t.stream k (x ∷ log))) (sym p.1)

pub one_for_each : OneNoteForEach
one_for_each t calls k i n small armed =
    let h = is_armed t calls k i n armed.0 armed.1 in
    often t (answered t calls) k i n small (record { few = h.0; high = h.1; leads = armed.1 })
