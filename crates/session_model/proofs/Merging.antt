-- The replies of the threads, merged in the script's order.
use Rattle.session_model.proofs.Words.{◌≡◌, ◌≢◌, ◌∙◌, ◌∷◌, ◌++◌, ◌+◌, ◌*◌, ◌<◌, ◌==◌, inl, inr, ℕ, zero, suc, Bool, true, false, List, [], drop}
use Rattle.session_model.proofs.Words.{length, map, refl, sym, ap, ap₂, subst, arith, slice_get, slice_index_or, slice_set, unwrap_or, Option, Some}
use Rattle.session_model.proofs.Words.{Result, All, if◌then◌else◌, length-set, cases_eq, nat_tests, get_or-set_same, get_or-set_other, All-tail, Dry}
use Rattle.session_model.proofs.Words.{Code, Einval, Eisrun, EventRef, Native, get_at, Book, Refusal, Widths, Asked, Call, Line, Account, opening}
use Rattle.session_model.proofs.Words.{first_of, row, done, StepOutcome, performed, replies_to, step, unless, Setting, account_at, answer, calls_at}
use Rattle.session_model.proofs.Words.{listed_from, mentioned_after, turn, world_after_line, Ahead, IsAhead, MergesToWorld, RegisteredFollows}
use Rattle.session_model.proofs.Words.{ahead_after, bits_from, merged_reply, next_reply, registered_after}
use Rattle.call_type.specs.declared.call.Call.TheVariants as call
use Rattle.call_type.specs.declared.call.Asked.TheVariants as asked
use Rattle.session_model.specs.declared.reply.Body.TheVariants as body
use Rattle.session_model.proofs.Sets.{map_put}

-- ---- a thread's registration

keeps : (o : Option Refusal) (a : Account) (made : StepOutcome) → made.account.registered ≡ a.registered → (unless o a made).account.registered ≡ a.registered
keeps = grind (arith, nat_tests)

unregistered : (book : Book) (shape : Widths) (a : Account) (b c : Bool) → let o = first_of (row b Eisrun ∷ row c Einval ∷ []) in
    (unless o a (performed book shape a call.Unregister)).account.registered ≡ registered_after call.Unregister (unless o a (performed book shape a call.Unregister)).reply.code a.registered
unregistered book shape a b c = grind (arith, nat_tests)

pub registered_follows : RegisteredFollows
registered_follows book shape a c = grind (arith, nat_tests, unregistered, keeps)

pub listed_bits : (bit : ℕ) (accounts : List Account) → bits_from bit (map (λ a. a.registered) accounts) ≡ listed_from bit accounts
listed_bits bit [] = refl
listed_bits bit (a ∷ accounts) = ap (λ n. (if a.registered then bit else 0) + n) (listed_bits (2 * bit) accounts)

-- ---- one line

flag_at : (accounts : List Account) (t : ℕ) (a : Account) (d : Bool) → slice_get accounts t ≡ Some a → slice_index_or (map (λ b. b.registered) accounts) t d ≡ a.registered
flag_at [] t a d e = cc
flag_at (b ∷ accounts) zero a d e = let same : b ≡ a = cc in ap (λ (c : Account). c.registered) same
flag_at (b ∷ accounts) (suc t) a d e = flag_at accounts t a d e

get_put_same : {X : Type 0} (xs : List X) (t : ℕ) (y x : X) → t < length xs → slice_get (slice_set xs t y) t ≡ Some x → y ≡ x
get_put_same [] t y x h e = absurd (omega (arith, h))
get_put_same (z ∷ xs) zero y x h e = cc
get_put_same (z ∷ xs) (suc t) y x h e = get_put_same xs t y x (omega (arith, h)) e

get_put_other : {X : Type 0} (xs : List X) (t s : ℕ) (y : X) → s ≢ t → slice_get (slice_set xs t y) s ≡ slice_get xs s
get_put_other [] t s y h = refl
get_put_other (z ∷ xs) zero zero y h = absurd (h refl)
get_put_other (z ∷ xs) zero (suc s) y h = refl
get_put_other (z ∷ xs) (suc t) zero y h = refl
get_put_other (z ∷ xs) (suc t) (suc s) y h = get_put_other xs t s y (λ q. h (ap suc q))

same_test : (t : ℕ) → (t == t) ≡ true
same_test t = grind (arith, nat_tests)

apart_test : (t s : ℕ) → (t ≡ s → ⊥) → (t == s) ≡ false
apart_test t s h = grind (arith, nat_tests, h)

-- a line that makes no call on the thread's session
no_calls : (b : Bool) (cs : List Call) → (if b then [] else []) ++ cs ≡ cs
no_calls b cs = grind (arith, nat_tests)

record Goes (at : Setting) (accounts : List Account) (m : List Native) (t : ℕ) (x : Asked) (ls : List Line) (q : Ahead) : Type 0 where
  replied : merged_reply at m q t x ≡ (turn at accounts m t x).reply
  ahead : IsAhead at (turn at accounts m t x).accounts ls (ahead_after q t x)

-- nothing changes for a line that is not a call
stays : (at : Setting) (accounts : List Account) (m : List Native) (t : ℕ) (ls : List Line) (q : Ahead) (l : Line) → ((s : ℕ) → calls_at s (l ∷ ls) ≡ calls_at s ls) → IsAhead at accounts (l ∷ ls) q → IsAhead at accounts ls q
stays at accounts m t ls q l none h = grind (arith, nat_tests)

code_answer : (at : Setting) (accounts : List Account) (m : List Native) (e : Result EventRef Code) → answer at [] m (asked.CodeOf e) ≡ answer at accounts m (asked.CodeOf e)
code_answer at accounts m e = grind (arith, nat_tests)

call_goes : (at : Setting) (accounts : List Account) (m : List Native) (t : ℕ) (c : Call) (ls : List Line) (q : Ahead) → t < length accounts → IsAhead at accounts (record { thread = t; asked = asked.Call c } ∷ ls) q → Goes at accounts m t (asked.Call c) ls q
call_goes at accounts m t c ls q few h =
    let one = get_at accounts t few in
    let a = one.0 in
    let made = step at.book at.shape a c in
    let rest = replies_to at.book at.shape made.account (calls_at t ls) in
    let is : account_at accounts t ≡ a = ap (λ o. unwrap_or o (opening t [] Dry)) one.1 in
    let own : calls_at t (record { thread = t; asked = asked.Call c } ∷ ls) ≡ c ∷ calls_at t ls = rw (same_test t) refl in
    let queue : slice_index_or q.replies t [] ≡ made.reply ∷ rest = h.replies_each t a one.1 ∙ ap (replies_to at.book at.shape a) own in
    let first : next_reply (slice_index_or q.replies t []) ≡ made.reply = ap next_reply queue in
    let others : drop 1 (slice_index_or q.replies t []) ≡ rest = ap (drop 1) queue in
    let flag : slice_index_or q.flags t false ≡ a.registered = ap (λ fs. slice_index_or fs t false) h.registered ∙ flag_at accounts t a false one.1 in
    let now : step at.book at.shape (account_at accounts t) c ≡ made = ap (λ b. step at.book at.shape b c) is in
    let registers : registered_after c (next_reply (slice_index_or q.replies t [])).code (slice_index_or q.flags t false) ≡ (step at.book at.shape (account_at accounts t) c).account.registered =
    ap₂ (λ r f. registered_after c r.code f) first flag ∙ (sym (registered_follows at.book at.shape a c) ∙ ap (λ (o : StepOutcome). o.account.registered) (sym now)) in
    record {
      replied = first ∙ ap (λ (o : StepOutcome). o.reply) (sym now);
      ahead = record {
        registered = ap₂ (λ fs f. slice_set fs t f) h.registered registers ∙ map_put (λ b. b.registered) accounts t (step at.book at.shape (account_at accounts t) c).account;
        same_length = length-set q.replies t _ ∙ (h.same_length ∙ sym (length-set accounts t _));
        replies_each = λ s b e. elim (cases_eq t s) [
          | inl same ↦
              let there : slice_get (slice_set accounts t (step at.book at.shape (account_at accounts t) c).account) t ≡ Some b = ap (slice_get (slice_set accounts t (step at.book at.shape (account_at accounts t) c).account)) same ∙ e in
              let b_is : made.account ≡ b = ap (λ (o : StepOutcome). o.account) (sym now) ∙ get_put_same accounts t _ b few there in
              let room : t < length q.replies = omega (arith, few, h.same_length) in
              subst (λ k. slice_index_or (slice_set q.replies t (drop 1 (slice_index_or q.replies t []))) k [] ≡ replies_to at.book at.shape b (calls_at k ls)) same
              (get_or-set_same q.replies t _ [] room ∙ (others ∙ ap (λ x. replies_to at.book at.shape x (calls_at t ls)) b_is))
          | inr apart ↦
              let old : slice_get accounts s ≡ Some b = sym (get_put_other accounts t s _ (λ r. apart (sym r))) ∙ e in
              let none : calls_at s (record { thread = t; asked = asked.Call c } ∷ ls) ≡ calls_at s ls = rw (apart_test t s apart) refl in
              get_or-set_other q.replies t s _ [] (λ r. apart (sym r)) ∙ (h.replies_each s b old ∙ ap (replies_to at.book at.shape b) none)
        ];
      };
    }

line_goes : (at : Setting) (accounts : List Account) (m : List Native) (t : ℕ) (x : Asked) (ls : List Line) (q : Ahead) → t < length accounts → IsAhead at accounts (record { thread = t; asked = x } ∷ ls) q → Goes at accounts m t x ls q
line_goes at accounts m t (asked.Call c) ls q few h = call_goes at accounts m t c ls q few h
line_goes at accounts m t (asked.CodeOf e) ls q few h = record { replied = code_answer at accounts m e; ahead = stays at accounts m t ls q _ (λ s. no_calls (t == s) (calls_at s ls)) h }
line_goes at accounts m t (asked.NameOf c) ls q few h = record { replied = refl; ahead = stays at accounts m t ls q _ (λ s. no_calls (t == s) (calls_at s ls)) h }
line_goes at accounts m t asked.Threads ls q few h = record {
  replied = ap (λ (n : ℕ). done (body.Threads n)) (ap (bits_from 1) h.registered ∙ listed_bits 1 accounts);
  ahead = stays at accounts m t ls q _ (λ s. no_calls (t == s) (calls_at s ls)) h;
}

length_kept : (at : Setting) (accounts : List Account) (m : List Native) (t : ℕ) (x : Asked) → length (turn at accounts m t x).accounts ≡ length accounts
length_kept at accounts m t x = grind (arith, nat_tests, length-set)

pub merges_to_world : MergesToWorld
merges_to_world at w [] x few h = refl
merges_to_world at w (l ∷ ls) x few h =
    let m = mentioned_after w.mentioned l in
    let first : l.thread < length w.accounts = few 0 l (omega arith) in
    let goes = line_goes at w.accounts m l.thread l.asked ls x first h in
    let later : All (λ k. k.thread < length (world_after_line at w l).accounts) ls =
    subst (λ n. All (λ k. k.thread < n) ls) (sym (length_kept at w.accounts m l.thread l.asked)) (All-tail (λ k. k.thread < length w.accounts) l ls few) in
    ap₂ ◌∷◌ goes.replied (merges_to_world at (world_after_line at w l) ls (ahead_after x l.thread l.asked) later goes.ahead)
