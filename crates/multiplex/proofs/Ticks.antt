-- The ticks of a group, by induction on the slices and on the ticks.
use Rattle.multiplex.proofs.Words.{◌≡◌, inl, inr, ℕ, zero, suc, ◌+◌, ◌-◌, ◌*◌, ◌/◌, ◌%◌, ◌≤◌, ◌<◌, Bool, true, false, cond, ◌==◌, List, [], ◌∷◌, ◌++◌}
use Rattle.multiplex.proofs.Words.{refl, sym, ◌∙◌, ap, ap₂, arith, count_by, nat_lt, min, range_with_len, sum_by-append, mod-mul-add, mod-add-div'}
use Rattle.multiplex.proofs.Words.{mod-lt, mul-add-div_right, div-lt_iff_lt-mul, div-mul-le_self, lt-div-mul-add, cases_order, nat_tests, Turns}
use Rattle.multiplex.proofs.Words.{has_turn, active, slices_run, RunsEvenly, ActiveInTurns, ActiveWithin, OneGroupActive}

-- a range in two parts
pub range-append : (a m n : ℕ) → range_with_len a (m + n) ≡ range_with_len a m ++ range_with_len (a + m) n
range-append a zero n = ap₂ range_with_len (let e : a ≡ a + 0 = omega arith in e) (let e : 0 + n ≡ n = omega arith in e)
range-append a (suc m) n =
    ap (range_with_len a) (let e : suc m + n ≡ suc (m + n) = omega arith in e)
    ∙ ap (λ xs. a ∷ xs) (range-append (a + 1) m n ∙ ap (λ i. range_with_len (a + 1) m ++ range_with_len i n) (let e : a + 1 + m ≡ a + suc m = omega arith in e))

pub count-cons : (p : ℕ → Bool) (x : ℕ) (xs : List ℕ) → count_by p (x ∷ xs) ≡ cond (p x) 1 0 + count_by p xs
count-cons p x xs = sum_by-append (λ y. cond (p y) 1 0) (x ∷ []) xs ∙ omega arith

-- one more
count_more : (p : ℕ → Bool) (n : ℕ) → count_by p (range_with_len 0 (suc n)) ≡ count_by p (range_with_len 0 n) + cond (p n) 1 0
count_more p n =
    ap (count_by p) (ap (range_with_len 0) (let e : suc n ≡ n + 1 = omega arith in e) ∙ range-append 0 n 1)
    ∙ (sum_by-append (λ y. cond (p y) 1 0) (range_with_len 0 n) (range_with_len (0 + n) 1)
    ∙ ap (λ k. count_by p (range_with_len 0 n) + k) (count-cons p (0 + n) [] ∙ (ap (λ k. cond (p k) 1 0 + 0) (let e : 0 + n ≡ n = omega arith in e) ∙ (let e : cond (p n) 1 0 + 0 ≡ cond (p n) 1 0 = omega arith in e))))

-- The counts over a part that begins at m: `more` says how many there are among the first r.
blocks : (p : ℕ → Bool) (more : ℕ → ℕ) (m size : ℕ) → more 0 ≡ 0 → ((r : ℕ) → r < size → more r + cond (p (m + r)) 1 0 ≡ more (suc r))
    → (r : ℕ) → r ≤ size → count_by p (range_with_len 0 (m + r)) ≡ count_by p (range_with_len 0 m) + more r
blocks p more m size base step zero h = ap (λ k. count_by p (range_with_len 0 k)) (let e : m + 0 ≡ m = omega arith in e) ∙ omega (arith, base)
blocks p more m size base step (suc r) h =
    let before = blocks p more m size base step r (omega arith) in
    ap (λ k. count_by p (range_with_len 0 k)) (let e : m + suc r ≡ suc (m + r) = omega arith in e)
    ∙ (count_more p (m + r) ∙ omega (arith, before, step r (omega arith)))

below_one_more : (j r : ℕ) → cond (nat_lt j r) 1 0 + cond (r == j) 1 0 ≡ cond (nat_lt j (suc r)) 1 0
below_one_more j r = grind (arith, nat_tests)

abbrev one_if : Bool → ℕ
one_if b = cond b 1 0

none_below : (j : ℕ) → one_if (nat_lt j 0) ≡ 0
none_below j = grind (arith, nat_tests)

one_below : (j n : ℕ) → j < n → one_if (nat_lt j n) ≡ 1
one_below j n h = grind (arith, nat_tests, h)

at_most_one : (b : Bool) → one_if b ≤ 1
at_most_one true = omega arith
at_most_one false = omega arith

-- among the first r slices of a turn
in_turn : (groups j q r : ℕ) → r < groups → cond (nat_lt j r) 1 0 + cond ((q * groups + r) % groups == j) 1 0 ≡ cond (nat_lt j (suc r)) 1 0
in_turn groups j q r h = ap (λ k. cond (nat_lt j r) 1 0 + cond (k == j) 1 0) (mod-mul-add q groups r h) ∙ below_one_more j r

slices_in_turn : (groups j q r : ℕ) → r ≤ groups → slices_run groups j (q * groups + r) ≡ slices_run groups j (q * groups) + cond (nat_lt j r) 1 0
slices_in_turn groups j q r h = blocks (λ s. (s % groups) == j) (λ k. cond (nat_lt j k) 1 0) (q * groups) groups (none_below j) (λ k below. in_turn groups j q k below) r h

whole_turns : (groups j q : ℕ) → j < groups → slices_run groups j (q * groups) ≡ q
whole_turns groups j zero h = ap (slices_run groups j) (let e : zero * groups ≡ 0 = omega arith in e)
whole_turns groups j (suc q) h =
    ap (slices_run groups j) (let e : suc q * groups ≡ q * groups + groups = omega arith in e)
    ∙ (slices_in_turn groups j q groups (omega arith) ∙ omega (arith, whole_turns groups j q h, one_below j groups h))

runs_so_many : (groups j n : ℕ) → j < groups → slices_run groups j n ≡ n / groups + cond (nat_lt j (n % groups)) 1 0
runs_so_many groups j n h =
    ap (slices_run groups j) (sym (mod-add-div' n groups) ∙ (let e : n % groups + n / groups * groups ≡ n / groups * groups + n % groups = omega arith in e))
    ∙ (slices_in_turn groups j (n / groups) (n % groups) (let b : n % groups < groups = mod-lt n (omega arith) in omega arith)
    ∙ ap (λ k. k + cond (nat_lt j (n % groups)) 1 0) (whole_turns groups j (n / groups) h))

pub runs_evenly : RunsEvenly
runs_evenly groups j k n h l = omega (arith, runs_so_many groups j n h, runs_so_many groups k n l, at_most_one (nat_lt j (n % groups)))

next_slice : (d g s : ℕ) → d < g → d * s + s ≤ g * s
next_slice d g s b = let e : (d + 1) * s ≤ g * s = grind arith in omega (arith, e)

same : (d g s r : ℕ) → d * s ≤ r → r < d * s + s → d ≡ g → min (r - g * s) s + one_if (d == g) ≡ min (suc r - g * s) s
same d g s r h l e =
    let m : d * s ≡ g * s = ap (λ k. k * s) e in
    let t : (d == g) ≡ true = grind (arith, nat_tests, e) in
    rw t (omega (arith, m))

before : (d g s r : ℕ) → r < d * s + s → d < g → min (r - g * s) s + one_if (d == g) ≡ min (suc r - g * s) s
before d g s r l b =
    let t : (d == g) ≡ false = grind (arith, nat_tests, b) in
    rw t (omega (arith, next_slice d g s b))

after : (d g s r : ℕ) → d * s ≤ r → g < d → min (r - g * s) s + one_if (d == g) ≡ min (suc r - g * s) s
after d g s r h b =
    let t : (d == g) ≡ false = grind (arith, nat_tests, b) in
    rw t (omega (arith, next_slice g d s b))

-- a tick in a slice of the turn: the part of the group grows by one exactly in the group's slice
part_grows : (d g s r : ℕ) → d * s ≤ r → r < d * s + s → min (r - g * s) s + one_if (d == g) ≡ min (suc r - g * s) s
part_grows d g s r h l = elim (cases_order d g) [
  | inl e ↦ same d g s r h l e
  | inr o ↦ elim o [ inl b ↦ before d g s r l b | inr b ↦ after d g s r h b ]
]

-- a tick of turn q
tick_in_turn : (t : Turns) (group q r : ℕ) → 0 < t.slice → r < t.slice * t.count → has_turn t group (q * (t.slice * t.count) + r) ≡ (r / t.slice == group)
tick_in_turn t group q r h l =
    let place : q * (t.slice * t.count) + r ≡ (q * t.count) * t.slice + r = omega arith in
    let slice : ((q * t.count) * t.slice + r) / t.slice ≡ q * t.count + r / t.slice = mul-add-div_right h (q * t.count) r in
    let few : r / t.slice < t.count = (div-lt_iff_lt-mul h).1 (let e : r < t.count * t.slice = omega arith in e) in
    ap (λ k. k % t.count == group) (ap (λ k. k / t.slice) place ∙ slice) ∙ ap (λ k. k == group) (mod-mul-add q t.count (r / t.slice) few)

ticks_in_turn : (t : Turns) (group q r : ℕ) → 0 < t.slice → r ≤ t.slice * t.count
    → active t group (q * (t.slice * t.count) + r) ≡ active t group (q * (t.slice * t.count)) + min (r - group * t.slice) t.slice
ticks_in_turn t group q r h l = blocks (has_turn t group) (λ k. min (k - group * t.slice) t.slice) (q * (t.slice * t.count)) (t.slice * t.count) (omega arith)
    (λ k below. ap (λ b. min (k - group * t.slice) t.slice + one_if b) (tick_in_turn t group q k h below)
    ∙ part_grows (k / t.slice) group t.slice k (div-mul-le_self k t.slice) (lt-div-mul-add h))
    r l

all_turns : (t : Turns) (group q : ℕ) → 0 < t.slice → group < t.count → active t group (q * (t.slice * t.count)) ≡ q * t.slice
all_turns t group zero h g = ap (active t group) (let e : zero * (t.slice * t.count) ≡ 0 = omega arith in e) ∙ (let e : 0 ≡ zero * t.slice = omega arith in e)
all_turns t group (suc q) h g =
    ap (active t group) (let e : suc q * (t.slice * t.count) ≡ q * (t.slice * t.count) + t.slice * t.count = omega arith in e)
    ∙ (ticks_in_turn t group q (t.slice * t.count) h (omega arith) ∙ omega (arith, all_turns t group q h g, next_slice group t.count t.slice g))

pub active_in_turns : ActiveInTurns
active_in_turns t group total h g =
    let p = t.slice * t.count in
    let long : 0 < p = grind arith in
    ap (active t group) (sym (mod-add-div' total p) ∙ (let e : total % p + total / p * p ≡ total / p * p + total % p = omega arith in e))
    ∙ (ticks_in_turn t group (total / p) (total % p) h (let b : total % p < p = mod-lt total long in omega arith)
    ∙ ap (λ k. k + min (total % p - group * t.slice) t.slice) (all_turns t group (total / p) h g))

count_within : (p : ℕ → Bool) (a n : ℕ) → count_by p (range_with_len a n) ≤ n
count_within p a zero = omega arith
count_within p a (suc n) = omega (arith, count-cons p a (range_with_len (a + 1) n), at_most_one (p a), count_within p (a + 1) n)

pub active_within : ActiveWithin
active_within t group total = count_within (has_turn t group) 0 total

-- one group has every tick
every_tick : (t : Turns) (tick : ℕ) → t.count ≡ 1 → has_turn t 0 tick ≡ true
every_tick t tick one = rw one (let e : tick / t.slice % 1 ≡ 0 = omega arith in rw e refl)

all_ticks : (p : ℕ → Bool) (a n : ℕ) → ((k : ℕ) → p k ≡ true) → count_by p (range_with_len a n) ≡ n
all_ticks p a zero h = refl
all_ticks p a (suc n) h = count-cons p a (range_with_len (a + 1) n) ∙ rw (h a) (omega (arith, all_ticks p (a + 1) n h))

pub one_group_active : OneGroupActive
one_group_active t total one = all_ticks (has_turn t 0) 0 total (λ k. every_tick t k one)
