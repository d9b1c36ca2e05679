-- Thresholds that the history of a thread shows: those of sets with a number, at or above the least one.
use Rattle.call_laws.proofs.Words.{rules, ◌≡◌, ℕ, zero, suc, ◌<◌, ◌≤◌, ◌⊎◌, inl, inr, Bool, true, false, List, [], ◌∷◌, length, refl, sym, ap, subst}
use Rattle.call_laws.proofs.Words.{◌∙◌, arith, Option, Some, None, Ok, both_ways, cases_lt, eqb_tells, nat_tests, All-nil, All-push, All-set}
use Rattle.call_laws.proofs.Words.{LEAST_THRESHOLD, MOST_SETS, EventRef, Native, Book, Refusal, AtRest, Widths, is_bad_threshold, place_of}
use Rattle.call_laws.proofs.Words.{removed_all, Call, Account, at, refused, account_refusal, performed, replies_to, step, unless, test_fails}
use Rattle.call_laws.proofs.Words.{CallReply, Thread, answered, history, makes, first_native, threshold_at, changed, holds_after, set_now}
use Rattle.call_laws.proofs.Words.{set_of_call}
use Rattle.std.specs.Prelude.{All, slice_index_or}
use Rattle.call_type.specs.declared.call.Call.TheVariants as call
use Rattle.call_laws.proofs.Histories.{set_now-changed, set_now-made, set_now-other}
use Rattle.call_laws.proofs.Noted.{Belongs, opening_belongs, step_belongs}
use Rattle.call_laws.proofs.Replied.{refused_changes, said}
use Rattle.call_laws.proofs.Steps.{first_row, present}

-- none, or one that `overflow` takes
abbrev pub IsThreshold : ℕ → Type 0
IsThreshold t = (t ≡ 0) ⊎ (LEAST_THRESHOLD ≤ t)

-- what a call that changed a set shows
record IsSeen (x : CallReply) : Type 0 where
  few : (k : ℕ) → changed k x ≡ true → k < MOST_SETS
  high : (k : ℕ) (e : EventRef) (t : ℕ) → x.call ≡ call.Overflow k (Ok e) t → changed k x ≡ true → IsThreshold t

abbrev AllSeen : List CallReply → Type 0
AllSeen [] = Unit {0}
AllSeen (x ∷ log) = IsSeen x × AllSeen log

-- ---- one call

at_below : {X : Type 0} (places : List (Option X)) (k : ℕ) (x : X) → at places k ≡ Some x → k < length places
at_below [] k x e = cc
at_below (p ∷ places) zero x e = omega arith
at_below (p ∷ places) (suc k) x e = omega (arith, at_below places k x e)

-- the set that a call changed is the one that it names
names : (k : ℕ) (x : CallReply) → changed k x ≡ true → set_of_call x.call ≡ Some k
names k x on = grind (arith, nat_tests, eqb_tells, both_ways)

is_threshold : (shape : Widths) (t : ℕ) (s : AtRest) → is_bad_threshold shape t s ≡ false → IsThreshold t
is_threshold shape t s h = grind (arith, nat_tests, both_ways)

performed_seen : (t : Thread) (log : List CallReply) (a : Account) (c : Call) → Belongs t log a → account_refusal t.book t.shape a c ≡ None
    → IsSeen (said c (performed t.book t.shape a c).reply)
performed_seen t log a c h q = grind (arith, nat_tests, present, first_row, names, said, at_below, is_threshold, test_fails)

step_seen : (t : Thread) (log : List CallReply) (a : Account) (c : Call) → Belongs t log a → IsSeen (said c (step t.book t.shape a c).reply)
step_seen t log a c h = go (account_refusal t.book t.shape a c) refl where
  go : (o : Option Refusal) → account_refusal t.book t.shape a c ≡ o → IsSeen (said c (unless o a (performed t.book t.shape a c)).reply)
  go (Some r) q = record {
    few = λ k on. absurd (both_ways (changed k (said c (refused r))) (refused_changes t.book t.shape a c r k q) on);
    high = λ k e threshold is on. absurd (both_ways (changed k (said c (refused r))) (refused_changes t.book t.shape a c r k q) on);
  }
  go None q = performed_seen t log a c h q

all_seen : (t : Thread) (log : List CallReply) (a : Account) (calls : List Call) → Belongs t log a → AllSeen log → AllSeen (history calls (replies_to t.book t.shape a calls) log)
all_seen t log a [] h seen = seen
all_seen t log a (c ∷ calls) h seen =
    let x = said c (step t.book t.shape a c).reply in
    all_seen t (x ∷ log) (step t.book t.shape a c).account calls (step_belongs t log a c h) (step_seen t log a c h, seen)

-- ---- all calls

-- a set with an event has a number
set_few : (book : Book) (log : List CallReply) (k i : ℕ) (n : Native) → AllSeen log → first_native book (set_now book k log) i ≡ Some n → k < MOST_SETS
set_few book [] k i n seen e = cc
set_few book (x ∷ log) k i n seen e = go (makes k x) (changed k x) refl refl (λ f. set_few book log k i n seen.1 f) where
  go : (made on : Bool) → makes k x ≡ made → changed k x ≡ on → (first_native book (set_now book k log) i ≡ Some n → k < MOST_SETS) → k < MOST_SETS
  go true on m c earlier = let f = sym (ap (λ s. first_native book s i) (set_now-made book k x log m)) ∙ e in cc
  go false true m c earlier = seen.0.few k c
  go false false m c earlier = earlier (sym (ap (λ s. first_native book s i) (set_now-other book k x log m c)) ∙ e)

holds_high : (book : Book) (k : ℕ) (x : CallReply) (s : AtRest) → IsSeen x → changed k x ≡ true → All IsThreshold s.thresholds → All IsThreshold (holds_after book x.call s).thresholds
holds_high book k x s seen on h = go x.call refl where
  named : (j : ℕ) (e : EventRef) (t : ℕ) → x.call ≡ call.Overflow j (Ok e) t → set_of_call x.call ≡ Some k → x.call ≡ call.Overflow k (Ok e) t
  named j e t q is = q ∙ ap (λ i. call.Overflow i (Ok e) t) (let both : Some j ≡ Some k = sym (ap set_of_call q) ∙ is in let same : j ≡ k = cc in same)

  go : (c : Call) → x.call ≡ c → All IsThreshold (holds_after book c s).thresholds
  go (call.Cleanup j) q = All-nil IsThreshold
  go (call.Add j (Ok e)) q = All-push IsThreshold s.thresholds 0 h (inl refl)
  go (call.Remove j (Ok e)) q = removed_all IsThreshold s.thresholds (place_of e s) h
  go (call.Overflow j (Ok e) t) q = All-set IsThreshold s.thresholds (place_of e s) t (seen.high k e t (named j e t q (names k x on)) on) h
  go c q = h

set_high : (book : Book) (log : List CallReply) (k : ℕ) → AllSeen log → All IsThreshold (set_now book k log).thresholds
set_high book [] k seen = All-nil IsThreshold
set_high book (x ∷ log) k seen = go (makes k x) (changed k x) refl refl (set_high book log k seen.1) where
  thresholds : AtRest → Type 0
  thresholds s = All IsThreshold s.thresholds

  go : (made on : Bool) → makes k x ≡ made → changed k x ≡ on → thresholds (set_now book k log) → thresholds (set_now book k (x ∷ log))
  go true on m c earlier = subst thresholds (sym (set_now-made book k x log m)) (All-nil IsThreshold)
  go false true m c earlier = subst thresholds (sym (set_now-changed book k x log m c)) (holds_high book k x (set_now book k log) seen.0 c earlier)
  go false false m c earlier = subst thresholds (sym (set_now-other book k x log m c)) earlier

-- a threshold above 0 is at or above the least one
above : (ts : List ℕ) (i : ℕ) → All IsThreshold ts → 0 < slice_index_or ts i 0 → LEAST_THRESHOLD ≤ slice_index_or ts i 0
above ts i h some = elim (cases_lt i (length ts)) [
  | inl below ↦ elim (h i 0 below) [ inl none ↦ absurd (omega (arith, none, some)) | inr high ↦ high ]
  | inr past ↦ absurd (omega (arith, some, nothing ts i past))
] where
  nothing : (ts : List ℕ) (i : ℕ) → length ts ≤ i → slice_index_or ts i 0 ≡ 0
  nothing [] i past = refl
  nothing (t ∷ ts) zero past = absurd (omega (arith, past))
  nothing (t ∷ ts) (suc i) past = nothing ts i (omega (arith, past))

-- what an event with a threshold shows
pub is_armed : (t : Thread) (calls : List Call) (k i : ℕ) (n : Native)
    → 0 < threshold_at (set_now t.book k (answered t calls)) i → first_native t.book (set_now t.book k (answered t calls)) i ≡ Some n
    → (k < MOST_SETS) × (LEAST_THRESHOLD ≤ threshold_at (set_now t.book k (answered t calls)) i)
is_armed t calls k i n some leads = search (rules, all_seen, opening_belongs, set_few, above, set_high)
