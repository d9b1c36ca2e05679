-- The occurrences that a stream gives have amounts from 1 to 255 and stamps that rise.
use Rattle.call_laws.proofs.Words.{◌≡◌, ◌+◌, ◌<◌, ◌≤◌, ℕ, true, List, [], ◌∷◌, Option, Some, None, refl, arith, ltb-true, All-cons, All-nil}
use Rattle.call_laws.proofs.Words.{All-weaker, AllPairs-cons, Tape, LARGEST_AMOUNT, LAST_STAMP, Occ, Ending, Rises, Judgement, Bad, Skipped, Version}
use Rattle.call_laws.proofs.Words.{Occurs, LineStart, is_above, judged, IsStart, after, first_start, joined, least_stamp, occurs_from, occurs_of}
use Rattle.call_laws.proofs.Words.{IsLine, line-occurrence, stamp-fits, state-next, AmountsFit, StampsFit, StampsRise, said}
use Rattle.std.specs.Prelude.{All, AllPairs}
use Rattle.stream_reader.specs.Lines.{Line, tape_lines}

-- what an occurrence is that comes from this time on
record IsGiven (time : ℕ) (o : Occ) : Type 0 where
  late : time ≤ o.stamp
  stamp : o.stamp ≤ LAST_STAMP
  least : 1 ≤ o.amount
  greatest : o.amount ≤ LARGEST_AMOUNT

-- one after another
abbrev AllGiven : ℕ → List Occ → Type 0
AllGiven time [] = Unit {0}
AllGiven time (o ∷ os) = IsGiven time o × AllGiven (o.stamp + 1) os

-- ---- what a tape says

above_least : (last : Option ℕ) (stamp : ℕ) → is_above last stamp ≡ true → least_stamp last ≤ stamp
above_least None stamp h = omega arith
above_least (Some last) stamp h = let less = ltb-true last stamp h in omega (arith, less)

given_one : (st : LineStart) (line : Line) (o : Occ) → IsStart st → IsLine st o line → IsGiven (least_stamp st.last) o
given_one st line o s l = grind (arith, stamp-fits, above_least)

-- from where a line begins
given_from : (e : Ending) (st : LineStart) (lines : List Line) → IsStart st → AllGiven (least_stamp st.last) (occurs_from e st lines).rest
unfolding occurs_from
given_from e st [] s = tt
given_from e st (line ∷ rest) s = go (judged st line) refl (given_from e (after st line (judged st line)) rest (state-next st line (judged st line) refl s)) where
  go : (j : Judgement) → judged st line ≡ j → AllGiven (least_stamp (after st line j).last) (occurs_from e (after st line j) rest).rest
      → AllGiven (least_stamp st.last) (joined st.number j (occurs_from e (after st line j) rest)).rest
  go (Bad c) q h = tt
  go Skipped q h = h
  go Version q h = h
  go (Occurs o) q h = (given_one st line o s (line-occurrence st line o q), h)

first_is : IsStart first_start
first_is = record { counted = omega arith; in_time = omega arith; below = λ e. tt }

given_of : (tape : Tape) → AllGiven 0 (said tape).rest
unfolding occurs_of
given_of tape = given_from tape.ending first_start (tape_lines tape.ending tape.bytes) first_is

-- ---- the laws

rises_of : (time : ℕ) (os : List Occ) → AllGiven time os → Rises time os
rises_of time [] h = tt
rises_of time (o ∷ os) h = (h.0.late, h.0.greatest, rises_of (o.stamp + 1) os h.1)

-- what a tape says rises
pub said_rises : (tape : Tape) → Rises 0 (said tape).rest
said_rises tape = rises_of 0 (said tape).rest (given_of tape)

-- a fact of each that is given
each_given : (P : Occ → Type 0) → ((time : ℕ) (o : Occ) → IsGiven time o → P o) → (time : ℕ) (os : List Occ) → AllGiven time os → All P os
each_given P f time [] h = All-nil P
each_given P f time (o ∷ os) h = All-cons P o os (f time o h.0) (each_given P f (o.stamp + 1) os h.1)

pub amounts_fit : AmountsFit
amounts_fit tape = each_given (λ o. (1 ≤ o.amount) × (o.amount ≤ LARGEST_AMOUNT)) (λ time o h. (h.least, h.greatest)) 0 (said tape).rest (given_of tape)

pub stamps_fit : StampsFit
stamps_fit tape = each_given (λ o. o.stamp ≤ LAST_STAMP) (λ time o h. h.stamp) 0 (said tape).rest (given_of tape)

-- all come at this time or later
all_late : (bound time : ℕ) (os : List Occ) → bound ≤ time → AllGiven time os → All (λ o. bound ≤ o.stamp) os
all_late bound time [] less h = All-nil (λ o. bound ≤ o.stamp)
all_late bound time (o ∷ os) less h =
    let late = h.0.late in
    All-cons (λ x. bound ≤ x.stamp) o os (omega (arith, less, late)) (all_late bound (o.stamp + 1) os (omega (arith, less, late)) h.1)

pairs_rise : (time : ℕ) (os : List Occ) → AllGiven time os → AllPairs (λ o later. o.stamp < later.stamp) os
pairs_rise time [] h = λ i j d less inside. absurd (omega (arith, inside))
pairs_rise time (o ∷ os) h =
    AllPairs-cons (λ x later. x.stamp < later.stamp) o os
    (All-weaker (λ later. o.stamp + 1 ≤ later.stamp) (λ later. o.stamp < later.stamp) (λ later late. omega (arith, late)) os (all_late (o.stamp + 1) (o.stamp + 1) os (omega arith) h.1))
    (pairs_rise (o.stamp + 1) os h.1)

pub stamps_rise : StampsRise
stamps_rise tape = pairs_rise 0 (said tape).rest (given_of tape)
