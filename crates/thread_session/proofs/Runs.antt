-- A run, occurrence by occurrence.
use Rattle.thread_session.proofs.Words.{◌≡◌, ℕ, ◌+◌, ◌≤◌, List, [], ◌∷◌, ◌++◌, length, map, refl, ap, ap₂, sym, subst, ◌∙◌, arith, append_assoc}
use Rattle.thread_session.proofs.Words.{append-nil, length-append, Option, Some, length-map, option_map, MOST_OCCURRENCES, Occ, Coming, Note, Book}
use Rattle.thread_session.proofs.Words.{Account, Kept, note, notes_at, notes_over, GaveOne, NextGives, ReaderView, Takes, coming, faults_of, CoreView}
use Rattle.thread_session.proofs.Words.{AgreesWith, CoreStands, consumed, AreInStep, SessionView, consuming, CanCome, FaultsKept, fault_count}
use Rattle.thread_session.proofs.Words.{IsReady, is_some, GaveAll, gave_more, gave_none, Bool, true, false}
use Rattle.stream_reader.specs.declared.next.Next.TheVariants as next
use Rattle.thread_session.proofs.Failing.{kept_on, kept_same}
use Rattle.thread_session.proofs.Possible.{came_more}

pub notes_over-append : (book : Book) (thread : ℕ) (sets : List (Option Kept)) (past os ps : List Occ) → notes_over book thread sets past (os ++ ps) ≡ notes_over book thread sets past os ++ notes_over book thread sets (past ++ os) ps
notes_over-append book thread sets past [] ps = ap (λ (xs : List Occ). notes_over book thread sets xs ps) (sym (append-nil past))
notes_over-append book thread sets past (o ∷ os) ps =
    ap (λ (xs : List Note). notes_at book thread past o 0 sets ++ xs) (notes_over-append book thread sets (past ++ o ∷ []) os ps ∙ ap (λ (xs : List Occ). notes_over book thread sets (past ++ o ∷ []) os ++ notes_over book thread sets xs ps) (append_assoc past (o ∷ []) os))
    ∙ sym (append_assoc (notes_at book thread past o 0 sets) (notes_over book thread sets (past ++ o ∷ []) os) (notes_over book thread sets (past ++ o ∷ os) ps))

-- what a run has done so far: it took these
pub record Taking (book : Book) (old : SessionView) (core : CoreView) (reader : ReaderView) (os : List Occ) (before after : List Note) : Type 0 where
  pub stands : (a : Account) → CoreStands book old.core a → CoreStands book core (consuming os a)
  pub notes : (a : Account) → CoreStands book old.core a → after ≡ before ++ notes_over book a.thread a.sets a.past os
  pub told : (c : Coming) → coming old.reader ≡ Some c → GaveAll c os (coming reader)

-- and k occurrences, with n notes; the core still agrees, and is in step with the reader
pub record Running (book : Book) (old : SessionView) (core : CoreView) (reader : ReaderView) (before after : List Note) (consumed count : ℕ) : Type 0 where
  pub shape : core.shape ≡ old.core.shape
  pub agrees : AgreesWith book core
  pub in_step : AreInStep core reader
  pub faults : FaultsKept (fault_count old.reader) (fault_count reader)
  pub os : List Occ
  pub number : length os ≡ consumed
  pub taking : Taking book old core reader os before after
  pub counted : (a : Account) → CoreStands book old.core a → count ≡ length (notes_over book a.thread a.sets a.past os)
  pub came : (later : Coming) → CanCome reader later → CanCome old.reader (record { rest = os ++ later.rest; mark = later.mark })

pub at_start : {book : Book} {old : SessionView} {core : CoreView} {reader : ReaderView} (before : List Note) → record { core = core; reader = reader } ≡ old → IsReady book old → AreInStep core reader
    → Running book old core reader before before 0 0
at_start {book} {old} before is ready in_step = subst (λ (v : SessionView). AreInStep v.core v.reader → Running book old v.core v.reader before before 0 0) (sym is) opened in_step where
  opened : AreInStep old.core old.reader → Running book old old.core old.reader before before 0 0
  opened in_step = record {
    shape = refl;
    agrees = ready.agrees;
    in_step = in_step;
    faults = kept_same old.reader;
    os = [];
    number = refl;
    taking = record {
      stands = λ a h. subst (λ (past : List Occ). CoreStands book old.core (record a { past = past })) (sym (append-nil a.past)) h;
      notes = λ a h. sym (append-nil before);
      told = λ c e. gave_none c (coming old.reader) e;
    };
    counted = λ a h. refl;
    came = λ later h. h;
  }

in_step_then : (core core_then : CoreView) (reader later : ReaderView) (o : Occ) → core_then.taken ≡ core.taken + 1 → core_then.last ≡ Some o → later.start.given ≤ MOST_OCCURRENCES → core.taken ≡ reader.start.given → GaveOne reader.start o later.start → AreInStep core_then later
in_step_then core core_then reader later o t l few s n =
    let given : core_then.taken ≡ later.start.given = omega (arith, t, s, n.given) in
    record {
      few = subst (λ (k : ℕ). k ≤ MOST_OCCURRENCES) (sym given) few;
      taken = λ gives. given;
      last = λ gives. ap (option_map (λ (x : Occ). x.stamp)) l ∙ sym n.last;
    }

-- the occurrences that a core took, and their notes
pub record HasTaken (book : Book) (old core : CoreView) (os : List Occ) (before after : List Note) : Type 0 where
  pub shape : core.shape ≡ old.shape
  pub agrees : AgreesWith book core
  pub stands : (a : Account) → CoreStands book old a → CoreStands book core (consuming os a)
  pub notes : (a : Account) → CoreStands book old a → after ≡ before ++ notes_over book a.thread a.sets a.past os

-- the notes of one more
noted_more : (book : Book) (old core : CoreView) (os : List Occ) (set : ℕ) (passed : List ℕ) (thread : ℕ) (o : Occ) → thread ≡ old.thread
    → ((b : Book) (a : Account) → CoreStands b core a → notes_at b a.thread a.past o 0 a.sets ≡ map (note a.thread set o) passed)
    → ((a : Account) → CoreStands book old a → CoreStands book core (consuming os a))
    → (a : Account) → CoreStands book old a → notes_over book a.thread a.sets a.past (os ++ o ∷ []) ≡ notes_over book a.thread a.sets a.past os ++ map (note thread set o) passed
noted_more book old core os set passed thread o same notes stands a h =
    let its : map (note thread set o) passed ≡ notes_at book a.thread (a.past ++ os) o 0 a.sets =
    ap (λ (t : ℕ). map (note t set o) passed) (same ∙ h.thread) ∙ sym (notes book (consuming os a) (stands a h)) in
    notes_over-append book a.thread a.sets a.past os (o ∷ []) ∙ ap (λ (xs : List Note). notes_over book a.thread a.sets a.past os ++ xs) (append-nil (notes_at book a.thread (a.past ++ os) o 0 a.sets) ∙ sym its)

-- the core took one more
pub taken_more : {book : Book} {old core core_then : CoreView} {os : List Occ} {before after after_then : List Note} {thread : ℕ} {o : Occ} (set : ℕ) (passed : List ℕ)
    → thread ≡ old.thread → after_then ≡ after ++ map (note thread set o) passed
    → core_then.shape ≡ core.shape → ((b : Book) → AgreesWith b core → AgreesWith b core_then)
    → ((b : Book) (a : Account) → CoreStands b core a → CoreStands b core_then (consumed a o))
    → ((b : Book) (a : Account) → CoreStands b core a → notes_at b a.thread a.past o 0 a.sets ≡ map (note a.thread set o) passed)
    → HasTaken book old core os before after → HasTaken book old core_then (os ++ o ∷ []) before after_then
taken_more {book} {old} {core} {core_then} {os} {before} {after} {after_then} {thread} {o} set passed same delivered shape agrees stands notes t = record {
  shape = shape ∙ t.shape;
  agrees = agrees book t.agrees;
  stands = λ a h. subst (λ (past : List Occ). CoreStands book core_then (record a { past = past })) (append_assoc a.past os (o ∷ [])) (stands book (consuming os a) (t.stands a h));
  notes = λ a h. delivered ∙ ap (λ (xs : List Note). xs ++ map (note thread set o) passed) (t.notes a h)
      ∙ append_assoc before (notes_over book a.thread a.sets a.past os) (map (note thread set o) passed)
      ∙ ap (λ (xs : List Note). before ++ xs) (sym (noted_more book old core os set passed thread o same notes t.stands a h));
}

-- a reader that gave an occurrence was not over
still_gives : (over : Bool) (o : Occ) → (over ≡ true → next.Occ o ≡ next.End) → over ≡ false
still_gives false o h = refl
still_gives true o h = absurd (let no : next.Occ o ≡ next.End = h refl in cc)

pub stays_in_step : (core core_then : CoreView) (reader later : ReaderView) (o : Occ) → core_then.taken ≡ core.taken + 1 → core_then.last ≡ Some o → later.start.given ≤ MOST_OCCURRENCES → GaveOne reader.start o later.start
    → (reader.over ≡ true → next.Occ o ≡ next.End) → AreInStep core reader → AreInStep core_then later
stays_in_step core core_then reader later o t l few n over s = in_step_then core core_then reader later o t l few (s.taken (still_gives reader.over o over)) n

-- the reader gave an occurrence, the core took it, and its notes were told
pub one_more : {book : Book} {old : SessionView} {core core_then : CoreView} {reader reader_then : ReaderView} {before after after_then : List Note} {consumed_so count more thread : ℕ} {o : Occ} (set : ℕ) (passed : List ℕ)
    → thread ≡ old.core.thread → more ≡ length passed → after_then ≡ after ++ map (note thread set o) passed
    → core_then.shape ≡ core.shape → ((b : Book) → AgreesWith b core → AgreesWith b core_then) → core_then.taken ≡ core.taken + 1 → core_then.last ≡ Some o
    → ((b : Book) (a : Account) → CoreStands b core a → CoreStands b core_then (consumed a o))
    → ((b : Book) (a : Account) → CoreStands b core a → notes_at b a.thread a.past o 0 a.sets ≡ map (note a.thread set o) passed)
    → reader_then.start.given ≤ MOST_OCCURRENCES → GaveOne reader.start o reader_then.start
    → is_some reader_then.source ≡ is_some reader.source → faults_of reader ≤ faults_of reader_then
    → NextGives (coming reader) (next.Occ o) (coming reader_then) → Takes reader (next.Occ o) reader_then → (reader.over ≡ true → next.Occ o ≡ next.End)
    → Running book old core reader before after consumed_so count → Running book old core_then reader_then before after_then (consumed_so + 1) (count + more)
one_more {book} {old} {core} {core_then} {reader} {reader_then} {before} {after} {after_then} {consumed_so} {count} {more} {thread} {o} set passed same so_many delivered
    shape agrees taken last stands notes few counts kept faults gives takes over r =
    let now : HasTaken book old.core core_then (r.os ++ o ∷ []) before after_then =
    taken_more set passed same delivered shape agrees stands notes (record { shape = r.shape; agrees = r.agrees; stands = r.taking.stands; notes = r.taking.notes }) in
    record {
      shape = now.shape;
      agrees = now.agrees;
      in_step = stays_in_step core core_then reader reader_then o taken last few counts over r.in_step;
      faults = kept_on old.reader reader reader_then r.faults kept faults;
      os = r.os ++ o ∷ [];
      number = length-append r.os (o ∷ []) ∙ ap (λ (n : ℕ). n + 1) r.number;
      taking = record {
        stands = now.stands;
        notes = now.notes;
        told = λ c e. gave_more c r.os (coming reader) (coming reader_then) o (r.taking.told c e) gives;
      };
      counted = λ a h. ap₂ (λ (x y : ℕ). x + y) (r.counted a h) (so_many ∙ sym (length-map passed (note thread set o)))
          ∙ sym (length-append (notes_over book a.thread a.sets a.past r.os) (map (note thread set o) passed))
          ∙ ap length (sym (noted_more book old.core core r.os set passed thread o same notes r.taking.stands a h));
      came = came_more old.reader reader reader_then r.os o r.came takes;
    }
