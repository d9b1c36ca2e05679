-- A set is there exactly if the history says so.
use Rattle.call_laws.proofs.Words.{arith, ◌≡◌, ◌≢◌, ℕ, zero, suc, false, List, [], ◌∷◌, refl, sym, ◌∙◌, slice_set, Option, Some}
use Rattle.call_laws.proofs.Words.{None, list_all, eqb_tells, and-false, MOST_SETS, Book, Refusal, Widths, Call, Reply, Account, Kept, changed_at}
use Rattle.call_laws.proofs.Words.{changed_by, kept_after, new_kept, sets_after, at, change, faces_of, free, rows, plain, refused, reply_over}
use Rattle.call_laws.proofs.Words.{sight_of_kept, account_after, account_refusal, performed, replies_to, step, performed_sets, row_fails}
use Rattle.call_laws.proofs.Words.{is_there, set_destroyed, CallReply, Thread, answered, begun, history, is_number}
use Rattle.std.specs.Prelude.{is_some, replicate}
use Rattle.papi_base.specs.declared.code.Code.TheVariants as code
use Rattle.call_type.specs.declared.call.Call.TheVariants as call
use Rattle.session_model.specs.declared.reply.Body.TheVariants as body
use Rattle.call_laws.proofs.Places.{at-put_none, at-put_other, is_number-other, is_number-same}
use Rattle.call_laws.proofs.Replied.{IsQuiet, first_not_ok, quiet_makes, quiet_refused, quiet_reply, said}

-- ---- places

-- a change leaves the places that are taken
change_taken : (f : Kept → Kept) (sets : List (Option Kept)) (j k : ℕ) → is_some (at (change f sets j) k) ≡ is_some (at sets k)
change_taken f [] j k = refl
change_taken f (None ∷ sets) zero zero = refl
change_taken f (Some s ∷ sets) zero zero = refl
change_taken f (x ∷ sets) zero (suc k) = refl
change_taken f (x ∷ sets) (suc j) zero = refl
change_taken f (x ∷ sets) (suc j) (suc k) = change_taken f sets j k

changed_taken : (f : Kept → Kept) (o : Option ℕ) (sets : List (Option Kept)) (k : ℕ) → is_some (at (changed_at f o sets) k) ≡ is_some (at sets k)
changed_taken f None sets k = refl
changed_taken f (Some j) sets k = change_taken f sets j k

-- the least free number is taken by what is put there, if one is free
put_free : (sets : List (Option Kept)) (s : Kept) (k : ℕ) → k ≡ free sets → list_all (λ place. is_some place) (faces_of sets) ≡ false → at (slice_set sets k (Some s)) k ≡ Some s
put_free [] s k e full = cc
put_free (None ∷ sets) s zero e full = refl
put_free (None ∷ sets) s (suc k) e full = absurd (omega (arith, e))
put_free (Some x ∷ sets) s zero e full = absurd (omega (arith, e))
put_free (Some x ∷ sets) s (suc k) e full = put_free sets s k (omega (arith, e)) full

-- ---- one call

-- a call that neither makes nor destroys a set
kept_there : (log : List CallReply) (c : Call) (r : Reply) (before after : List (Option Kept)) (k : ℕ)
    → IsQuiet r.body → set_destroyed c ≡ None → is_some (at after k) ≡ is_some (at before k)
    → is_there k log ≡ is_some (at before k) → is_there k (said c r ∷ log) ≡ is_some (at after k)
kept_there log c r before after k quiet e same h = rw (quiet_makes c r k quiet, e) (h ∙ sym same)

-- a set that is made
made_there : (log : List CallReply) (x : CallReply) (sets : List (Option Kept)) (s : Kept) (k : ℕ) → x.call ≡ call.Create
    → x.reply.body ≡ body.SetNumber (free sets) → list_all (λ place. is_some place) (faces_of sets) ≡ false
    → is_there k log ≡ is_some (at sets k) → is_there k (x ∷ log) ≡ is_some (at (slice_set sets (free sets) (Some s)) k)
made_there log x sets s k c r room h = grind (arith, eqb_tells, is_number-same, put_free, is_number-other, at-put_other)

-- a set that is destroyed
gone_there : (log : List CallReply) (j : ℕ) (sets : List (Option Kept)) (k : ℕ)
    → is_there k log ≡ is_some (at sets k) → is_there k (said (call.Destroy j) (plain code.Ok) ∷ log) ≡ is_some (at (slice_set sets j None) k)
gone_there log j sets k h = grind (arith, eqb_tells, is_number-same, at-put_none, is_number-other, at-put_other)

-- the places that are taken are those of the sets that are there
abbrev AreThere : List CallReply → Account → Type 0
AreThere log a = (k : ℕ) → is_there k log ≡ is_some (at a.sets k)

other_there : (book : Book) (shape : Widths) (log : List CallReply) (a : Account) (c : Call) → c ≢ call.Create → set_destroyed c ≡ None
    → (performed book shape a c).reply ≡ reply_over book (sight_of_kept book shape a.past) a.sets c
    → (o : Option ℕ) → sets_after new_kept (kept_after book a.past) c a.sets ≡ changed_at (kept_after book a.past c) o a.sets
    → AreThere log a → AreThere (said c (performed book shape a c).reply ∷ log) (performed book shape a c).account
other_there book shape log a c other kept r o sets h k = grind (arith, quiet_reply, kept_there, IsQuiet, performed_sets, changed_taken)

performed_there : (book : Book) (shape : Widths) (log : List CallReply) (a : Account) (c : Call) → account_refusal book shape a c ≡ None
    → AreThere log a → AreThere (said c (performed book shape a c).reply ∷ log) (performed book shape a c).account
performed_there book shape log a (call.Run n) q h k = h k
performed_there book shape log a call.Create q h k =
    made_there log (said call.Create (performed book shape a call.Create).reply) a.sets new_kept k refl refl
    (row_fails (rows book shape a.registered (faces_of a.sets) call.Create) 0 q) (h k)
performed_there book shape log a (call.Destroy j) q h k = gone_there log j a.sets k (h k)
performed_there book shape log a c q h k = other_there book shape log a c (λ e. cc) refl refl (changed_by c) refl h k

-- a call that is refused
refused_there : (book : Book) (shape : Widths) (log : List CallReply) (a : Account) (c : Call) (r : Refusal) → account_refusal book shape a c ≡ Some r
    → AreThere log a → AreThere (said c (refused r) ∷ log) a
refused_there book shape log a (call.Destroy j) r q h k =
    let fails = first_not_ok (rows book shape a.registered (faces_of a.sets) (call.Destroy j)) r (refl, (refl, (refl, tt))) q in
    rw (quiet_makes (call.Destroy j) (refused r) k (quiet_refused r), fails, and-false (is_number k (Some j))) (h k)
refused_there book shape log a c r q h k = kept_there log c (refused r) a.sets a.sets k (quiet_refused r) refl refl (h k)

step_there : (book : Book) (shape : Widths) (log : List CallReply) (a : Account) (c : Call)
    → AreThere log a → AreThere (said c (step book shape a c).reply ∷ log) (step book shape a c).account
step_there book shape log a c h = grind (arith, said, refused_there, performed_there)

-- ---- all calls

all_there : (book : Book) (shape : Widths) (log : List CallReply) (a : Account) (calls : List Call)
    → AreThere log a → AreThere (history calls (replies_to book shape a calls) log) (account_after book shape a calls)
all_there book shape log a [] h = h
all_there book shape log a (c ∷ calls) h =
    all_there book shape (said c (step book shape a c).reply ∷ log) (step book shape a c).account calls (step_there book shape log a c h)

-- no set is there before the first call
none_there : (n k : ℕ) → false ≡ is_some (at {X = Kept} (replicate n None) k)
none_there zero k = refl
none_there (suc n) zero = refl
none_there (suc n) (suc k) = none_there n k

-- the sets of a thread that are there
pub thread_there : (t : Thread) (calls : List Call) (k : ℕ) → is_there k (answered t calls) ≡ is_some (at (account_after t.book t.shape (begun t) calls).sets k)
thread_there t calls = all_there t.book t.shape [] (begun t) calls (none_there MOST_SETS)
