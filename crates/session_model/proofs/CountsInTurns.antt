-- Counts in turns and ticks in turns.
use Rattle.session_model.proofs.Words.{nat_tests, ◌≡◌, ℕ, zero, suc, ◌+◌, ◌-◌, ◌*◌, ◌/◌, ◌%◌, ◌≤◌, Bool, true, false, cond, ◌==◌, List, [], ◌∷◌, ◌++◌}
use Rattle.session_model.proofs.Words.{length, take, drop, refl, ap, ap₂, subst, sym, ◌∙◌, arith, Option, Some, None, take-take, take-append-drop}
use Rattle.session_model.proofs.Words.{drop-take, take-length, sum, count_by, if◌then◌else◌, range_with_len, sum_by-append, Occ, Native, Domain}
use Rattle.session_model.proofs.Words.{holds, held, weight_of, Kept, last_after, time_after, clock, end, along, in_window, weighed, count, Turns}
use Rattle.session_model.proofs.Words.{has_turn, active, weight_in_turn, estimate, total, turns_of, Rises, IsWithin, count-cons, range-append}
use Rattle.session_model.proofs.Words.{estimate_whole, CountsPerTick, OneGroupCounts}

-- a weight is at most 255 if the amount is
pub weight_small : (h e b c : Bool) (x : ℕ) → x ≤ 255 → (if h then (if e then (if b then 0 else 1) else (if c then x else 1)) else 0) ≤ 255
weight_small h e b c x k = grind (arith, nat_tests)

sum-cons : (x : ℕ) (xs : List ℕ) → sum (x ∷ xs) ≡ x + sum xs
sum-cons x xs = sum_by-append (λ y. y) (x ∷ []) xs ∙ omega arith

turn_small : (b : Bool) (w : ℕ) → w ≤ 255 → (if b then w else 0) ≤ 255 * cond b 1 0
turn_small b w h = grind (arith, nat_tests)

-- the ticks of a range from x on, x the first of them
count-from : (p : ℕ → Bool) (a x n : ℕ) → a ≤ x → cond (p x) 1 0 + count_by p (range_with_len (x + 1) n) ≤ count_by p (range_with_len a (x + 1 + n - a))
count-from p a x n h =
    let e : x + 1 + n - a ≡ (x - a) + suc n = omega arith in
    let f : a + (x - a) ≡ x = omega arith in
    let whole : count_by p (range_with_len a (x + 1 + n - a)) ≡ count_by p (range_with_len a (x - a)) + count_by p (range_with_len x (suc n)) =
    ap (λ k. count_by p (range_with_len a k)) e ∙ (ap (count_by p) (range-append a (x - a) (suc n)) ∙ (sum_by-append (λ y. cond (p y) 1 0) (range_with_len a (x - a)) (range_with_len (a + (x - a)) (suc n)) ∙ ap (λ k. count_by p (range_with_len a (x - a)) + count_by p (range_with_len k (suc n))) f)) in
    omega (arith, whole, count-cons p x (range_with_len (x + 1) n))

-- the time after some occurrences that begin at a time
abbrev after : ℕ → List Occ → ℕ
after time [] = time
after time (o ∷ os) = after (o.stamp + 1) os

after-clock : (before : Option Occ) (os : List Occ) → after (time_after before) os ≡ time_after (last_after before os)
after-clock before [] = refl
after-clock before (o ∷ os) = after-clock (Some o) os

after-more : (time : ℕ) (os : List Occ) → Rises time os → time ≤ after time os
after-more time [] h = omega arith
after-more time (o ∷ os) h = omega (arith, h.0, after-more (o.stamp + 1) os h.2)

-- what is counted in turns over occurrences whose stamps rise
bound : (t : Turns) (g : ℕ) (n : Native) (d : Domain) (before : Option Occ) (os : List Occ) (time : ℕ) → t.start ≤ time → Rises time os
    → sum (along (weight_in_turn t g n d) before os) ≤ 255 * count_by (has_turn t g) (range_with_len (time - t.start) (after time os - time))
bound t g n d before [] time h r = omega arith
bound t g n d before (o ∷ os) time h r =
    let x = o.stamp - t.start in
    let p = has_turn t g in
    let a = time - t.start in
    let e = after (o.stamp + 1) os in
    let later : o.stamp + 1 ≤ e = after-more (o.stamp + 1) os r.2 in
    let rest : sum (along (weight_in_turn t g n d) (Some o) os) ≤ 255 * count_by p (range_with_len (o.stamp + 1 - t.start) (e - (o.stamp + 1))) =
    bound t g n d (Some o) os (o.stamp + 1) (omega (arith, r.0)) r.2 in
    let same : o.stamp + 1 - t.start ≡ x + 1 = omega (arith, r.0) in
    let size : x + 1 + (e - (o.stamp + 1)) - a ≡ e - time = omega (arith, r.0) in
    let ticks : cond (p x) 1 0 + count_by p (range_with_len (x + 1) (e - (o.stamp + 1))) ≤ count_by p (range_with_len a (e - time)) =
    subst (λ k. cond (p x) 1 0 + count_by p (range_with_len (x + 1) (e - (o.stamp + 1))) ≤ count_by p (range_with_len a k)) size (count-from p a x (e - (o.stamp + 1)) (omega (arith, r.0))) in
    let small : weight_of n d before o ≤ 255 = weight_small (holds n d o) n.mods.edge (held n d before) (n.mods.cmask == 0) o.amount r.1 in
    let first : weight_in_turn t g n d before o ≤ 255 * cond (p x) 1 0 = turn_small (p x) (weight_of n d before o) small in
    let rest' : sum (along (weight_in_turn t g n d) (Some o) os) ≤ 255 * count_by p (range_with_len (x + 1) (e - (o.stamp + 1))) =
    subst (λ k. sum (along (weight_in_turn t g n d) (Some o) os) ≤ 255 * count_by p (range_with_len k (e - (o.stamp + 1)))) same rest in
    omega (arith, sum-cons (weight_in_turn t g n d before o) (along (weight_in_turn t g n d) (Some o) os), first, rest', ticks)

-- the occurrences of a window, and the one before it
drop-along : (weigh : Option Occ → Occ → ℕ) (before : Option Occ) (k : ℕ) (os : List Occ) → drop k (along weigh before os) ≡ along weigh (last_after before (take k os)) (drop k os)
drop-along weigh before zero os = refl
drop-along weigh before (suc k) [] = refl
drop-along weigh before (suc k) (o ∷ os) = drop-along weigh (Some o) k os

take-along : (weigh : Option Occ → Occ → ℕ) (before : Option Occ) (k : ℕ) (os : List Occ) → take k (along weigh before os) ≡ along weigh before (take k os)
take-along weigh before zero os = refl
take-along weigh before (suc k) [] = refl
take-along weigh before (suc k) (o ∷ os) = ap (λ xs. weigh before o ∷ xs) (take-along weigh (Some o) k os)

rises-take : (time k : ℕ) (os : List Occ) → Rises time os → Rises time (take k os)
rises-take time zero os h = tt
rises-take time (suc k) [] h = tt
rises-take time (suc k) (o ∷ os) h = (h.0, h.1, rises-take (o.stamp + 1) k os h.2)

rises-drop : (before : Option Occ) (k : ℕ) (os : List Occ) → Rises (time_after before) os → Rises (time_after (last_after before (take k os))) (drop k os)
rises-drop before zero os h = h
rises-drop before (suc k) [] h = tt
rises-drop before (suc k) (o ∷ os) h = rises-drop (Some o) k os h.2

pub last-append : (before : Option Occ) (xs ys : List Occ) → last_after before (xs ++ ys) ≡ last_after (last_after before xs) ys
last-append before [] ys = refl
last-append before (x ∷ xs) ys = last-append (Some x) xs ys

window-along : (weigh : Option Occ → Occ → ℕ) (b : Bool) (from to : ℕ) (past : List Occ)
    → (if b then drop from (along weigh None past) else take (to - from) (drop from (along weigh None past)))
    ≡ along weigh (last_after None (take from past)) (if b then drop from past else take (to - from) (drop from past))
window-along weigh b from to past = grind (arith, nat_tests, drop-along, take-along)

-- the occurrences before a window and in it
window-whole : (b : Bool) (from to : ℕ) (past : List Occ) → from ≤ to → to ≤ length past
    → take from past ++ (if b then drop from past else take (to - from) (drop from past)) ≡ take (if b then length past else to) past
window-whole true from to past h k = take-append-drop from past ∙ sym (take-length past)
window-whole false from to past h k =
    let m : from + (to - from) ≡ to = omega arith in
    ap₂ (λ xs ys. xs ++ ys) (sym (take-take from to past h))
    (sym (drop-take from (to - from) past) ∙ ap (λ i. drop from (take i past)) m)
    ∙ take-append-drop from (take to past)

window-rises : (b : Bool) (from to : ℕ) (past : List Occ) → Rises 0 past → Rises (clock past from) (if b then drop from past else take (to - from) (drop from past))
window-rises b from to past h = grind (arith, nat_tests, rises-drop, rises-take)

-- what a set weighs lies between the times of its window's ends
window-end : (past : List Occ) (s : Kept) → IsWithin (length past) s → after (clock past s.from) (in_window s past) ≡ clock past (end (length past) s)
window-end past s w =
    after-clock (last_after None (take s.from past)) (in_window s past)
    ∙ (ap time_after (sym (last-append None (take s.from past) (in_window s past)))
    ∙ ap (λ xs. time_after (last_after None xs)) (window-whole s.running s.from s.to past w.in_order w.past))

weighed-along : (weigh : Option Occ → Occ → ℕ) (past : List Occ) (s : Kept) → weighed weigh past s ≡ sum (along weigh (last_after None (take s.from past)) (in_window s past))
weighed-along weigh past s = ap sum (window-along weigh s.running s.from s.to past)

in_turns : (past : List Occ) (s : Kept) (t : Turns) (group : ℕ) (n : Native) → t.start ≡ clock past s.from → Rises 0 past → IsWithin (length past) s
    → weighed (weight_in_turn t group n s.set.domain) past s ≤ 255 * active t group (total past s)
in_turns past s t group n begun r w = grind (arith, nat_tests, bound, window-rises, window-end, weighed-along)

pub counts_per_tick : CountsPerTick
counts_per_tick past s slice numbers group n r w = in_turns past s (turns_of slice numbers past s) group n refl r w

-- one group has every tick
every_tick : (t : Turns) (tick : ℕ) → t.count ≡ 1 → has_turn t 0 tick ≡ true
every_tick t tick one = rw one (let e : tick / t.slice % 1 ≡ 0 = omega arith in rw e refl)

all_ticks : (p : ℕ → Bool) (a n : ℕ) → ((k : ℕ) → p k ≡ true) → count_by p (range_with_len a n) ≡ n
all_ticks p a zero h = refl
all_ticks p a (suc n) h = count-cons p a (range_with_len (a + 1) n) ∙ rw (h a) (omega (arith, all_ticks p (a + 1) n h))

along-same : (v w : Option Occ → Occ → ℕ) → ((b : Option Occ) (o : Occ) → v b o ≡ w b o) → (before : Option Occ) (os : List Occ) → along v before os ≡ along w before os
along-same v w h before [] = refl
along-same v w h before (o ∷ os) = ap₂ ◌∷◌ (h before o) (along-same v w h (Some o) os)

-- in one group each occurrence is in turn
one_turn : (past : List Occ) (s : Kept) (t : Turns) (n : Native) → t.count ≡ 1 → weighed (weight_in_turn t 0 n s.set.domain) past s ≡ count past s n
one_turn past s t n one = grind (arith, nat_tests, along-same, every_tick)

pub one_group_counts : OneGroupCounts
one_group_counts past s turns n r w one =
    let time = total past s in
    let own : Turns = record { slice = turns.slice; count = turns.count; start = clock past s.from } in
    let ticks : (t : Turns) → t.count ≡ 1 → active t 0 time ≡ time = λ t e. all_ticks (has_turn t 0) 0 time (λ k. every_tick t k e) in
    let none : time ≡ 0 → count past s n ≡ 0 = λ z. omega (arith, in_turns past s own 0 n refl r w, one_turn past s own n one, ticks own one, z) in
    ap₂ (λ c a. estimate c time a) (one_turn past s turns n one) (ticks turns one) ∙ estimate_whole (count past s n) time none
