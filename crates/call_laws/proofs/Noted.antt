-- The notes of a thread's calls are the passings that their history shows.
use Rattle.call_laws.proofs.Words.{nat_tests, ◌≡◌, ℕ, ◌≤◌, Bool, true, false, List, [], ◌∷◌, ◌++◌, length, take, drop, map, refl, sym, ap, ap₂, subst}
use Rattle.call_laws.proofs.Words.{◌∙◌, arith, Option, Some, None, flat_map, range_with_len, MOST_SETS, Occ, Book, AtRest, Widths, Call, Account}
use Rattle.call_laws.proofs.Words.{Kept, last_after, IsWithin, in_window, at, sight_of_kept, notes_to, performed, replies_to, step, notes_at}
use Rattle.call_laws.proofs.Words.{notes_of_place, notes_over, passed_in, places_stay, each_at, step_has, last-append, CallReply, OccAfter, Thread}
use Rattle.call_laws.proofs.Words.{begun, history, placed_after, taken, taken_by, NotesAreThePassings, note_of, notes_of_call, notes_of_occ}
use Rattle.call_laws.proofs.Words.{notes_of_run, notes_of_set, passing_indexes, passings, runs_now, set_now, window}
use Rattle.std.specs.Prelude.{filter, if◌then◌else◌, min}
use Rattle.std.proofs.lemmas.List.{append-nil, append_assoc, length-append, length-replicate}
use Rattle.call_type.specs.declared.call.Call.TheVariants as call
use Rattle.call_laws.proofs.Follows.{running}
use Rattle.call_laws.proofs.Passed.{next, noted_is, passed_here, window-next}
use Rattle.call_laws.proofs.Replied.{quiet_refused, quiet_reply, said}
use Rattle.call_laws.proofs.Steps.{HistoryFollows, opening_follows, step_follows}
use Rattle.call_laws.proofs.Windows.{placed-drop, placed-take}

-- ---- in the middle of a run

-- what is kept of a set that runs is what the history says, with the occurrences that the run took
record SetStands (t : Thread) (log : List CallReply) (before : List OccAfter) (past : List Occ) (k : ℕ) (s : Kept) : Type 0 where
  holds : s.set ≡ set_now t.book k log
  from_in : s.from ≤ length past
  windowed : s.running ≡ true → in_window s (placed_after None past) ≡ window t.stream k log ++ before

record Stands (t : Thread) (log : List CallReply) (before : List OccAfter) (past : List Occ) (sets : List (Option Kept)) : Type 0 where
  places : length sets ≡ MOST_SETS
  runs_is : (k : ℕ) → running (at sets k) ≡ runs_now k log
  each : (k : ℕ) (s : Kept) → at sets k ≡ Some s → SetStands t log before past k s

-- one more occurrence
stands_next : (t : Thread) (log : List CallReply) (before : List OccAfter) (past : List Occ) (o : Occ) (sets : List (Option Kept)) → Stands t log before past sets
    → Stands t log (before ++ next past o ∷ []) (past ++ o ∷ []) sets
stands_next t log before past o sets h = record {
  places = h.places;
  runs_is = h.runs_is;
  each = λ k s e. let g = h.each k s e in record {
    holds = g.holds;
    from_in = omega (arith, g.from_in, length-append past (o ∷ []));
    windowed = λ runs. window-next s past o runs g.from_in ∙ ap (λ os. os ++ next past o ∷ []) (g.windowed runs) ∙ append_assoc (window t.stream k log) before (next past o ∷ []);
  };
}

-- the notes of the place of a set
place_noted : (t : Thread) (log : List CallReply) (before : List OccAfter) (past : List Occ) (o : Occ) (k : ℕ) (place : Option Kept)
    → running place ≡ runs_now k log → ((s : Kept) → place ≡ Some s → SetStands t log before past k s)
    → notes_of_place t.book t.number past o k place ≡ (if runs_now k log then notes_of_set t log before (next past o) k else [])
place_noted t log before past o k None on h = rw (← on) refl
place_noted t log before past o k (Some s) on h = rw (← on) (go s.running refl) where
  go : (b : Bool) → s.running ≡ b → notes_of_place t.book t.number past o k (Some s) ≡ (if b then notes_of_set t log before (next past o) k else [])
  go true runs =
      let g = h s refl in
      ap (λ b. map (note_of t.number k o) (passed_in b t.book past s o)) runs
      ∙ ap (map (note_of t.number k o)) (passed_here t.book past s o runs g.from_in)
      ∙ ap₂ (λ (x : AtRest) (os : List OccAfter). map (note_of t.number k o) (passing_indexes t.book (record { set = x; so_far = os; now = next past o }))) g.holds (g.windowed runs)
  go false stopped = ap (λ b. map (note_of t.number k o) (passed_in b t.book past s o)) stopped

-- the notes of an occurrence
occ_noted : (t : Thread) (log : List CallReply) (before : List OccAfter) (past : List Occ) (o : Occ) (sets : List (Option Kept)) → Stands t log before past sets
    → notes_at t.book t.number past o 0 sets ≡ notes_of_occ t log before (next past o)
occ_noted t log before past o sets h =
    noted_is t.book t.number past o (λ k. runs_now k log) (notes_of_set t log before (next past o)) 0 sets (λ j.
    subst (λ k. notes_of_place t.book t.number past o k (at sets j) ≡ (if runs_now k log then notes_of_set t log before (next past o) k else [])) (omega arith)
    (place_noted t log before past o j (at sets j) (h.runs_is j) (h.each j)))
    ∙ ap (λ n. flat_map (notes_of_set t log before (next past o)) (filter (λ k. runs_now k log) (range_with_len 0 n))) h.places

-- the notes of the next occurrences
run_noted : (t : Thread) (log : List CallReply) (before : List OccAfter) (past os : List Occ) (sets : List (Option Kept)) → Stands t log before past sets
    → notes_over t.book t.number sets past os ≡ notes_of_run t log before (placed_after (last_after None past) os)
run_noted t log before past [] sets h = refl
run_noted t log before past (o ∷ os) sets h = grind (arith, nat_tests, occ_noted, next, stands_next, last-append, run_noted t log (before ++ next past o ∷ []) (past ++ o ∷ []) os sets (stands_next t log before past o sets h))

-- ---- one call

-- the account is one of the thread after these calls
pub record Belongs (t : Thread) (log : List CallReply) (a : Account) : Type 0 where
  pub follows : HistoryFollows t.book t.stream log a
  pub own : a.thread ≡ t.number
  pub places : length a.sets ≡ MOST_SETS

-- before the first occurrence of a run
stands : (t : Thread) (log : List CallReply) (a : Account) → Belongs t log a → Stands t log [] a.past a.sets
stands t log a h = record {
  places = h.places;
  runs_is = h.follows.runs_is;
  each = λ k s e.
      let g = h.follows.each k s e in
      let inside = each_at (IsWithin (length a.past)) a.sets k s h.follows.within.each e in
      record {
        holds = g.holds;
        from_in = omega (arith, inside.in_order, inside.past);
        windowed = λ runs. g.windowed ∙ sym (append-nil (window t.stream k log));
      };
}

-- the occurrences that a run took come after the past
taken_next : (t : Thread) (log : List CallReply) (a : Account) (k : ℕ) → Belongs t log a
    → placed_after (last_after None a.past) (take k a.rest) ≡ take k (drop (taken log) (placed_after None t.stream))
taken_next t log a k h = grind (arith, nat_tests, placed-take, placed-drop)

-- a call that took nothing has no notes
none_taken : (t : Thread) (log : List CallReply) (x : CallReply) → taken_by x.reply.body ≡ 0 → [] ≡ notes_of_call t x log
none_taken t log x none = rw none refl

performed_noted : (t : Thread) (log : List CallReply) (a : Account) (c : Call) → Belongs t log a
    → (performed t.book t.shape a c).notes ≡ notes_of_call t (said c (performed t.book t.shape a c).reply) log
performed_noted t log a (call.Run n) h =
    let k = min n (length a.rest) in
    ap (λ thread. notes_over t.book thread a.sets a.past (take k a.rest)) h.own
    ∙ run_noted t log [] a.past (take k a.rest) a.sets (stands t log a h)
    ∙ ap (notes_of_run t log []) (taken_next t log a k h)
performed_noted t log a call.Create h = refl
performed_noted t log a c h =
    none_taken t log (said c (performed t.book t.shape a c).reply) (quiet_reply t.book (sight_of_kept t.book t.shape a.past) a.sets c (λ e. cc)).takes_none

step_noted : (t : Thread) (log : List CallReply) (a : Account) (c : Call) → Belongs t log a
    → (step t.book t.shape a c).notes ≡ notes_of_call t (said c (step t.book t.shape a c).reply) log
step_noted t log a c h = grind (arith, nat_tests, said, none_taken, quiet_refused, performed_noted)

-- ---- all calls

performed_thread : (book : Book) (shape : Widths) (a : Account) (c : Call) → (performed book shape a c).account.thread ≡ a.thread
performed_thread book shape a c = grind (arith, nat_tests)

pub step_belongs : (t : Thread) (log : List CallReply) (a : Account) (c : Call) → Belongs t log a → Belongs t (said c (step t.book t.shape a c).reply ∷ log) (step t.book t.shape a c).account
step_belongs t log a c h = record {
  follows = step_follows t.book t.shape t.stream log a c h.follows;
  own = step_has (λ b. b.thread ≡ a.thread) t.book t.shape a c refl (λ q. performed_thread t.book t.shape a c) ∙ h.own;
  places = places_stay t.book t.shape a c ∙ h.places;
}

all_noted : (t : Thread) (log : List CallReply) (a : Account) (calls : List Call) → Belongs t log a
    → passings t log ++ notes_to t.book t.shape a calls ≡ passings t (history calls (replies_to t.book t.shape a calls) log)
all_noted t log a [] h = append-nil (passings t log)
all_noted t log a (c ∷ calls) h =
    let next = step t.book t.shape a c in
    sym (append_assoc (passings t log) next.notes (notes_to t.book t.shape next.account calls))
    ∙ ap (λ notes. (passings t log ++ notes) ++ notes_to t.book t.shape next.account calls) (step_noted t log a c h)
    ∙ all_noted t (said c next.reply ∷ log) next.account calls (step_belongs t log a c h)

pub opening_belongs : (t : Thread) → Belongs t [] (begun t)
opening_belongs t = record { follows = opening_follows t; own = refl; places = length-replicate {A = Option Kept} MOST_SETS None }

-- the handler of a thread is told of its passings
pub notes_are : NotesAreThePassings
notes_are t calls = all_noted t [] (begun t) calls (opening_belongs t)
