-- The world looked at on one thread: by induction on the lines of the script.
use Rattle.session_model.proofs.Words.{rules, append_assoc, slice_get, slice_set, slice_index_or, unwrap_or, zero, suc, ◌+◌, ◌<◌, Some, nat_tests}
use Rattle.session_model.proofs.Words.{THREADS, Native, Book, nat_is, Asked, Call, Line, Reply, Widths, Coming, Dry, Account, opening, step}
use Rattle.session_model.proofs.Words.{account_after, replies_to, notes_to, Setting, World, account_at, turn, mentioned_after, world_after_line}
use Rattle.session_model.proofs.Words.{calls_asked, is_call, opening_accounts, AccountByThread, NotesByThread, OpensByThread, RepliesByThread}
use Rattle.std.proofs.Common.{◌≡◌, ◌≢◌, ℕ, Bool, true, false, ◌==◌, ◌&&◌, if◌then◌else◌, List, [], ◌∷◌, ◌++◌, refl, sym, ◌∙◌, ap, arith}
use Rattle.session_model.proofs.Places.{set_same, set_other}

-- the calls of a line that are the thread's
abbrev own : ℕ → ℕ → Asked → List Call
own s t a = if s == t then calls_asked a else []

pub account-append : (book : Book) (shape : Widths) (a : Account) (xs ys : List Call) → account_after book shape a (xs ++ ys) ≡ account_after book shape (account_after book shape a xs) ys
account-append book shape a [] ys = refl
account-append book shape a (x ∷ xs) ys = account-append book shape (step book shape a x).account xs ys

apart_of : (s t : ℕ) → (s == t) ≡ false → t ≢ s
apart_of s t e = λ q. grind (arith, nat_tests, e, q)

-- the account that a line's own thread has
pub found : (accounts : List Account) (s : ℕ) (a : Account) → slice_get accounts s ≡ Some a → account_at accounts s ≡ a
found accounts s a e = ap (λ o. unwrap_or o (opening s [] Dry)) e

-- nothing of a thread's own: its account stays
stays : (book : Book) (shape : Widths) (a : Account) (b : Bool) → Some a ≡ Some (account_after book shape a (if b then [] else []))
stays book shape a b = grind (arith, nat_tests)

call_account : (at : Setting) (accounts : List Account) (s t : ℕ) (c : Call) (a : Account) → slice_get accounts t ≡ Some a → (b : Bool) → (s == t) ≡ b
    → slice_get (slice_set accounts s (step at.book at.shape (account_at accounts s) c).account) t ≡ Some (account_after at.book at.shape a (if b then c ∷ [] else []))
call_account at accounts s t c a e b q = grind (arith, nat_tests, nat_is, set_same, found, set_other, apart_of)

-- one line: its thread makes a step, and the others stay
line_account : (at : Setting) (accounts : List Account) (m : List Native) (s t : ℕ) (x : Asked) (a : Account) → slice_get accounts t ≡ Some a
    → slice_get (turn at accounts m s x).accounts t ≡ Some (account_after at.book at.shape a (own s t x))
line_account at accounts m s t x a e = grind (arith, nat_tests, call_account, stays)

line_by_thread : (at : Setting) (w : World) (l : Line) (t : ℕ) (a : Account) → slice_get w.accounts t ≡ Some a
    → slice_get (world_after_line at w l).accounts t ≡ Some (account_after at.book at.shape a (own l.thread t l.asked))
line_by_thread at w l t a e = line_account at w.accounts (mentioned_after w.mentioned l) l.thread t l.asked a e

pub account_by_thread : AccountByThread
account_by_thread at w [] t a e = e
account_by_thread at w (l ∷ ls) t a e = grind (arith, nat_tests, account-append, account_by_thread at (world_after_line at w l) ls t _ (line_by_thread at w l t a e))

pub replies-append : (book : Book) (shape : Widths) (a : Account) (xs ys : List Call)
    → replies_to book shape a (xs ++ ys) ≡ replies_to book shape a xs ++ replies_to book shape (account_after book shape a xs) ys
replies-append book shape a [] ys = refl
replies-append book shape a (x ∷ xs) ys = ap (λ rs. (step book shape a x).reply ∷ rs) (replies-append book shape (step book shape a x).account xs ys)

none : (book : Book) (shape : Widths) (a : Account) (r : Reply) (b : Bool) → (if (b && false) then r ∷ [] else []) ≡ replies_to book shape a (if b then [] else [])
none book shape a r b = grind (arith, nat_tests)

call_reply : (at : Setting) (accounts : List Account) (s t : ℕ) (c : Call) (a : Account) → slice_get accounts t ≡ Some a → (b : Bool) → (s == t) ≡ b
    → (if (b && true) then (step at.book at.shape (account_at accounts s) c).reply ∷ [] else []) ≡ replies_to at.book at.shape a (if b then c ∷ [] else [])
call_reply at accounts s t c a e b q = grind (arith, nat_tests, nat_is, found)

line_reply : (at : Setting) (accounts : List Account) (m : List Native) (s t : ℕ) (x : Asked) (a : Account) → slice_get accounts t ≡ Some a
    → (if ((s == t) && is_call x) then (turn at accounts m s x).reply ∷ [] else []) ≡ replies_to at.book at.shape a (own s t x)
line_reply at accounts m s t x a e = grind (arith, nat_tests, call_reply, none)

pub replies_by_thread : RepliesByThread
replies_by_thread at w [] t a e = refl
replies_by_thread at w (l ∷ ls) t a e =
    grind (arith, nat_tests, replies-append, line_reply at w.accounts (mentioned_after w.mentioned l) l.thread t l.asked a e, replies_by_thread at (world_after_line at w l) ls t _ (line_by_thread at w l t a e))

pub notes-append : (book : Book) (shape : Widths) (a : Account) (xs ys : List Call)
    → notes_to book shape a (xs ++ ys) ≡ notes_to book shape a xs ++ notes_to book shape (account_after book shape a xs) ys
notes-append book shape a [] ys = refl
notes-append book shape a (x ∷ xs) ys =
    ap (λ ns. (step book shape a x).notes ++ ns) (notes-append book shape (step book shape a x).account xs ys)
    ∙ sym (append_assoc (step book shape a x).notes _ _)

no_notes : (book : Book) (shape : Widths) (a : Account) (b : Bool) → (if b then [] else []) ≡ notes_to book shape a (if b then [] else [])
no_notes book shape a b = grind (arith, nat_tests)

call_notes : (at : Setting) (accounts : List Account) (s t : ℕ) (c : Call) (a : Account) → slice_get accounts t ≡ Some a → (b : Bool) → (s == t) ≡ b
    → (if b then (step at.book at.shape (account_at accounts s) c).notes else []) ≡ notes_to at.book at.shape a (if b then c ∷ [] else [])
call_notes at accounts s t c a e b q = search (rules, nat_is, found)

line_notes : (at : Setting) (accounts : List Account) (m : List Native) (s t : ℕ) (x : Asked) (a : Account) → slice_get accounts t ≡ Some a
    → (if s == t then (turn at accounts m s x).notes else []) ≡ notes_to at.book at.shape a (own s t x)
line_notes at accounts m s t x a e = grind (arith, nat_tests, call_notes, no_notes)

pub notes_by_thread : NotesByThread
notes_by_thread at w [] t a e = refl
notes_by_thread at w (l ∷ ls) t a e =
    grind (arith, nat_tests, notes-append, line_notes at w.accounts (mentioned_after w.mentioned l) l.thread t l.asked a e, notes_by_thread at (world_after_line at w l) ls t _ (line_by_thread at w l t a e))

-- ---- the opening world

abbrev no_stream : Coming
no_stream = record { rest = []; mark = Dry }

opens : (n t : ℕ) (streams : List Coming) (k : ℕ) → k < n
    → slice_get (opening_accounts n t streams) k ≡ Some (opening (t + k) (slice_index_or streams k no_stream).rest (slice_index_or streams k no_stream).mark)
opens zero t streams k h = absurd (omega (arith, h))
opens (suc n) t [] zero h = ap (λ (i : ℕ). Some (opening i [] Dry)) (let e : t ≡ t + 0 = omega arith in e)
opens (suc n) t [] (suc k) h = opens n (t + 1) [] k (omega (arith, h)) ∙ ap (λ (i : ℕ). Some (opening i [] Dry)) (let e : t + 1 + k ≡ t + suc k = omega arith in e)
opens (suc n) t (s ∷ ss) zero h = ap (λ (i : ℕ). Some (opening i s.rest s.mark)) (let e : t ≡ t + 0 = omega arith in e)
opens (suc n) t (s ∷ ss) (suc k) h =
    opens n (t + 1) ss k (omega (arith, h))
    ∙ ap (λ (i : ℕ). Some (opening i (slice_index_or ss k no_stream).rest (slice_index_or ss k no_stream).mark)) (let e : t + 1 + k ≡ t + suc k = omega arith in e)

pub opens_by_thread : OpensByThread
opens_by_thread streams t h =
    opens THREADS 0 streams t h
    ∙ ap (λ (i : ℕ). Some (opening i (slice_index_or streams t no_stream).rest (slice_index_or streams t no_stream).mark)) (let e : 0 + t ≡ t = omega arith in e)
