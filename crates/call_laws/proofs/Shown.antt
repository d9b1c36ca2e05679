-- What calls reply of the values of a set.
use Rattle.call_laws.proofs.Words.{arith, nat_tests, ◌≡◌, ℕ, ℤ, true, false, List, length, refl, ap, ◌∙◌, slice_get, Some, option_map_or, Book}
use Rattle.call_laws.proofs.Words.{Widths, Call, Account, Kept, IsWithin, each_at, at, faces_of, is_absent, rows, done, account_after, performed}
use Rattle.call_laws.proofs.Words.{step, accumulated, values_of, Thread, answered, begun, is_ok, AccumShows, ReadShows, StopShows, sums_now}
use Rattle.call_type.specs.declared.call.Call.TheVariants as call
use Rattle.session_model.specs.declared.reply.Body.TheVariants as body
use Rattle.call_laws.proofs.Follows.{SetFollows, values_follow}
use Rattle.call_laws.proofs.Replied.{NoneOk, first_not_ok}
use Rattle.call_laws.proofs.Steps.{present, thread_follows}
use Rattle.call_laws.proofs.Sums.{sums_more, value_addable}

-- a call that is carried out shows what it shows of the set that is there
shown_of : (book : Book) (shape : Widths) (a : Account) (c : Call) (k : ℕ) (f : Kept → List ℤ)
    → NoneOk (rows book shape a.registered (faces_of a.sets) c)
    → option_map_or (λ r. r.0) (slice_get (rows book shape a.registered (faces_of a.sets) c) 0) false ≡ is_absent (faces_of a.sets) k
    → (performed book shape a c).reply ≡ done (option_map_or (λ s. body.Values (f s)) (at a.sets k) body.Nothing)
    → is_ok (step book shape a c).reply.code ≡ true
    → (s : Kept) × (at a.sets k ≡ Some s) × ((step book shape a c).reply ≡ done (body.Values (f s)))
shown_of book shape a c k f bad same gives ok = grind (arith, nat_tests, first_not_ok, present)

-- the window of a set of the thread lies in the past
inside_past : (t : Thread) (calls : List Call) (k : ℕ) (s : Kept) → at (account_after t.book t.shape (begun t) calls).sets k ≡ Some s
    → IsWithin (length (account_after t.book t.shape (begun t) calls).past) s
inside_past t calls k s e =
    let a = account_after t.book t.shape (begun t) calls in
    each_at (IsWithin (length a.past)) a.sets k s (thread_follows t calls).within.each e

pub read_shows : ReadShows
read_shows t calls k ok =
    let a = account_after t.book t.shape (begun t) calls in
    let g = shown_of t.book t.shape a (call.Read k) k (values_of t.book a.past) (refl, tt) refl refl ok in
    let h = (thread_follows t calls).each k g.0 g.1 in
    g.2 ∙ ap (λ vs. done (body.Values vs)) (values_follow t.book t.stream (answered t calls) a.past k g.0 (inside_past t calls k g.0 g.1) h)

pub stop_shows : StopShows
stop_shows t calls k ok =
    let a = account_after t.book t.shape (begun t) calls in
    let g = shown_of t.book t.shape a (call.Stop k) k (values_of t.book a.past) (refl, (refl, tt)) refl refl ok in
    let h = (thread_follows t calls).each k g.0 g.1 in
    g.2 ∙ ap (λ vs. done (body.Values vs)) (values_follow t.book t.stream (answered t calls) a.past k g.0 (inside_past t calls k g.0 g.1) h)

-- the caller's values with those of the set added
accumulated_follow : (t : Thread) (calls : List Call) (k : ℕ) (s : Kept) → IsWithin (length (account_after t.book t.shape (begun t) calls).past) s
    → SetFollows t.book t.stream (answered t calls) (account_after t.book t.shape (begun t) calls).past k s
    → accumulated t.book (account_after t.book t.shape (begun t) calls).past s ≡ sums_now t.book t.stream k (answered t calls)
accumulated_follow t calls k s inside h = grind (arith, nat_tests, sums_more, value_addable, values_follow)

pub accum_shows : AccumShows
accum_shows t calls k ok =
    let a = account_after t.book t.shape (begun t) calls in
    let g = shown_of t.book t.shape a (call.Accum k) k (accumulated t.book a.past) (refl, tt) refl refl ok in
    let h = (thread_follows t calls).each k g.0 g.1 in
    g.2 ∙ ap (λ vs. done (body.Values vs)) (accumulated_follow t calls k g.0 (inside_past t calls k g.0 g.1) h)
