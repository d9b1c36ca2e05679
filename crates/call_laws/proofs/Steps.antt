-- Each call keeps an account that follows its history.
use Rattle.call_laws.proofs.Words.{arith, nat_tests, ◌≡◌, ◌≢◌, ℕ, zero, suc, false, List, [], ◌∷◌, length, refl, sym, ap, ◌∙◌, slice_get, Option}
use Rattle.call_laws.proofs.Words.{Some, None, Err, both_ways, option_map, option_map_or, MOST_SETS, Occ, Book, Refusal, Widths, Call, Reply, Account}
use Rattle.call_laws.proofs.Words.{Kept, AllWithin, changed_at, kept_after, rows, refused, reply_over, sight_of_kept, account_after, account_refusal}
use Rattle.call_laws.proofs.Words.{performed, replies_to, step, unless, at_map, row_fails, opening_within, within_stays, CallReply, Thread, answered}
use Rattle.call_laws.proofs.Words.{begun, history, set_of_call}
use Rattle.std.specs.Prelude.{replicate}
use Rattle.call_type.specs.declared.call.Call.TheVariants as call
use Rattle.session_model.specs.Faces.{at, change, face_of, faces_of, free, is_absent, runs as face_runs}
use Rattle.call_laws.proofs.Follows.{Follows, changed_follows, gone_follows, idle_follows, made_follows, ran_follows, running}
use Rattle.call_laws.proofs.Places.{at-free, is_number-other, is_number-same}
use Rattle.call_laws.proofs.Replied.{changes_none, ok_reply, quiet_makes, quiet_refused, quiet_reply, refused_changes, said, unknown_refused}

-- ---- what a call that is carried out finds

-- the first row of a call that changes a set is that there is none
pub first_row : (book : Book) (shape : Widths) (a : Account) (c : Call) (k : ℕ) → set_of_call c ≡ Some k
    → option_map_or (λ r. r.0) (slice_get (rows book shape a.registered (faces_of a.sets) c) 0) false ≡ is_absent (faces_of a.sets) k
first_row book shape a c k q = grind (arith, nat_tests)

-- the set that it names
pub present : (book : Book) (shape : Widths) (a : Account) (c : Call) (k : ℕ) → account_refusal book shape a c ≡ None
    → option_map_or (λ r. r.0) (slice_get (rows book shape a.registered (faces_of a.sets) c) 0) false ≡ is_absent (faces_of a.sets) k
    → (s : Kept) × (at a.sets k ≡ Some s)
present book shape a c k q same = go (at a.sets k) refl (at_map face_of a.sets k) where
  here : is_absent (faces_of a.sets) k ≡ false
  here = sym same ∙ row_fails (rows book shape a.registered (faces_of a.sets) c) 0 q

  go : (o : Option Kept) → at a.sets k ≡ o → at (faces_of a.sets) k ≡ option_map face_of (at a.sets k) → (s : Kept) × (at a.sets k ≡ Some s)
  go None e f = let none : at (faces_of a.sets) k ≡ None = f ∙ ap (option_map face_of) e in absurd (both_ways (is_absent (faces_of a.sets) k) here (rw none refl))
  go (Some s) e f = (s, e)

-- `destroy` finds no set that runs
at_rest : (book : Book) (shape : Widths) (a : Account) (k : ℕ) → account_refusal book shape a (call.Destroy k) ≡ None → running (at a.sets k) ≡ false
at_rest book shape a k q = go (at a.sets k) (at_map face_of a.sets k) (row_fails (rows book shape a.registered (faces_of a.sets) (call.Destroy k)) 1 q) where
  go : (o : Option Kept) → at (faces_of a.sets) k ≡ option_map face_of o → face_runs (faces_of a.sets) k ≡ false → running o ≡ false
  go None e f = refl
  go (Some s) e f = rw e at f

-- ---- one call

-- the history follows the account
abbrev pub HistoryFollows : Book → List Occ → List CallReply → Account → Type 0
HistoryFollows book stream log a = Follows book stream log a.past a.rest a.sets

-- the reply to a call that is carried out and is no run
abbrev reply_to : Book → Widths → Account → Call → Reply
reply_to book shape a c = reply_over book (sight_of_kept book shape a.past) a.sets c

-- a call that changes the set that it names
changed_step : (book : Book) (shape : Widths) (stream : List Occ) (log : List CallReply) (a : Account) (c : Call) (k : ℕ) → c ≢ call.Create → set_of_call c ≡ Some k
    → account_refusal book shape a c ≡ None
    → AllWithin (length a.past) (change (kept_after book a.past c) a.sets k)
    → HistoryFollows book stream log a
    → Follows book stream (said c (reply_to book shape a c) ∷ log) a.past a.rest (change (kept_after book a.past c) a.sets k)
changed_step book shape stream log a c k other e q inside h =
    let p = present book shape a c k q (first_row book shape a c k e) in
    let sight = sight_of_kept book shape a.past in
    changed_follows book stream log a.past a.rest a.sets c (reply_to book shape a c) k p.0 e (ok_reply book sight a.sets c) (quiet_reply book sight a.sets c other) p.1 inside h

-- a call that changes no set
idle_step : (book : Book) (shape : Widths) (stream : List Occ) (log : List CallReply) (a : Account) (c : Call) → c ≢ call.Create → set_of_call c ≡ None
    → HistoryFollows book stream log a → Follows book stream (said c (reply_to book shape a c) ∷ log) a.past a.rest a.sets
idle_step book shape stream log a c other e h =
    let r = reply_to book shape a c in
    let quiet = quiet_reply book (sight_of_kept book shape a.past) a.sets c other in
    idle_follows book stream log a.past a.rest a.sets (said c r) (λ j. quiet_makes c r j quiet) (λ j. changes_none c r j e) quiet.takes_none h

-- a call that changes the set that it names, if it names one that it changes
named_step : (book : Book) (shape : Widths) (stream : List Occ) (log : List CallReply) (a : Account) (c : Call) (o : Option ℕ) → c ≢ call.Create → set_of_call c ≡ o
    → account_refusal book shape a c ≡ None
    → AllWithin (length a.past) (changed_at (kept_after book a.past c) o a.sets)
    → HistoryFollows book stream log a
    → Follows book stream (said c (reply_to book shape a c) ∷ log) a.past a.rest (changed_at (kept_after book a.past c) o a.sets)
named_step book shape stream log a c None other e q inside h = idle_step book shape stream log a c other e h
named_step book shape stream log a c (Some k) other e q inside h = changed_step book shape stream log a c k other e q inside h

performed_follows : (book : Book) (shape : Widths) (stream : List Occ) (log : List CallReply) (a : Account) (c : Call) → account_refusal book shape a c ≡ None
    → AllWithin (length (performed book shape a c).account.past) (performed book shape a c).account.sets
    → HistoryFollows book stream log a
    → HistoryFollows book stream (said c (performed book shape a c).reply ∷ log) (performed book shape a c).account
performed_follows book shape stream log a (call.Run n) q inside h =
    ran_follows book stream log a.past a.rest a.sets (said (call.Run n) (performed book shape a (call.Run n)).reply) (λ j. refl) (λ j. refl) inside h
performed_follows book shape stream log a call.Create q inside h =
    made_follows book stream log a.past a.rest a.sets (said call.Create (reply_to book shape a call.Create)) (free a.sets) (is_number-same (free a.sets))
    (λ j apart. is_number-other j (free a.sets) apart) (λ j. refl) refl (at-free a.sets (free a.sets) refl) inside h
performed_follows book shape stream log a (call.Destroy k) q inside h =
    gone_follows book stream log a.past a.rest a.sets (said (call.Destroy k) (reply_to book shape a (call.Destroy k))) k (λ j. refl) (λ j. refl) refl (at_rest book shape a k q) inside h
performed_follows book shape stream log a (call.Add k (Err code)) q inside h = unknown_refused book shape a (call.Add k (Err code)) 2 q refl
performed_follows book shape stream log a (call.Remove k (Err code)) q inside h = unknown_refused book shape a (call.Remove k (Err code)) 2 q refl
performed_follows book shape stream log a (call.Overflow k (Err code) t) q inside h = unknown_refused book shape a (call.Overflow k (Err code) t) 2 q refl
performed_follows book shape stream log a c q inside h = named_step book shape stream log a c (set_of_call c) (λ e. cc) refl q inside h

-- one more call, refused or carried out
pub step_follows : (book : Book) (shape : Widths) (stream : List Occ) (log : List CallReply) (a : Account) (c : Call) → HistoryFollows book stream log a
    → HistoryFollows book stream (said c (step book shape a c).reply ∷ log) (step book shape a c).account
step_follows book shape stream log a c h = go (account_refusal book shape a c) refl (within_stays book shape a c h.within) where
  go : (o : Option Refusal) → account_refusal book shape a c ≡ o
      → AllWithin (length (unless o a (performed book shape a c)).account.past) (unless o a (performed book shape a c)).account.sets
      → HistoryFollows book stream (said c (unless o a (performed book shape a c)).reply ∷ log) (unless o a (performed book shape a c)).account
  go (Some r) q inside = let quiet = quiet_refused r in
      idle_follows book stream log a.past a.rest a.sets (said c (refused r)) (λ j. quiet_makes c (refused r) j quiet) (λ j. refused_changes book shape a c r j q) quiet.takes_none h
  go None q inside = performed_follows book shape stream log a c q inside h

-- ---- all calls

all_follow : (book : Book) (shape : Widths) (stream : List Occ) (log : List CallReply) (a : Account) (calls : List Call) → HistoryFollows book stream log a
    → HistoryFollows book stream (history calls (replies_to book shape a calls) log) (account_after book shape a calls)
all_follow book shape stream log a [] h = h
all_follow book shape stream log a (c ∷ calls) h =
    all_follow book shape stream (said c (step book shape a c).reply ∷ log) (step book shape a c).account calls (step_follows book shape stream log a c h)

-- there is no set before the first call
no_set : (n k : ℕ) → at {X = Kept} (replicate n None) k ≡ None
no_set zero k = refl
no_set (suc n) zero = refl
no_set (suc n) (suc k) = no_set n k

-- the account of a thread before its first call
pub opening_follows : (t : Thread) → HistoryFollows t.book t.stream [] (begun t)
opening_follows t = record {
  past_is = refl;
  rest_is = refl;
  within = opening_within t.number t.stream t.mark;
  runs_is = λ k. ap running (no_set MOST_SETS k);
  each = λ k s e. let both : None ≡ Some s = sym (no_set MOST_SETS k) ∙ e in cc;
}

-- the history of a thread's first calls follows its account
pub thread_follows : (t : Thread) (calls : List Call) → HistoryFollows t.book t.stream (answered t calls) (account_after t.book t.shape (begun t) calls)
thread_follows t calls = all_follow t.book t.shape t.stream [] (begun t) calls (opening_follows t)
