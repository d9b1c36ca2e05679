-- Bounds of counts.
use Rattle.call_laws.proofs.Words.{◌≡◌, ◌+◌, ◌-◌, ◌*◌, ◌≤◌, ◌<◌, ◌^◌, ◌==◌, ℕ, zero, suc, pos, Bool, true, false, List, [], ◌∷◌, ◌++◌, All, drop}
use Rattle.call_laws.proofs.Words.{length, length-append, take, sum, arith, Option, Some, None, if◌then◌else◌, w64, fits_signed_from_abs}
use Rattle.call_laws.proofs.Words.{int_wrap_fits, All-head, All-tail, sum_by-cons, weight_small, held, holds, weight_of, Domain, Native, Occ, new_set}
use Rattle.call_laws.proofs.Words.{count_of, RegionLine, along, NativesAreExact, asked_in, count_between, position, weights}

-- each of some numbers is at most 255
abbrev AreSmall : List ℕ → Type 0
AreSmall [] = Unit {0}
AreSmall (w ∷ ws) = (w ≤ 255) × AreSmall ws

along_small : (n : Native) (d : Domain) (before : Option Occ) (os : List Occ) → All (λ o. o.amount ≤ 255) os → AreSmall (along (weight_of n d) before os)
along_small n d before [] h = tt
along_small n d before (o ∷ os) h = (
  weight_small (holds n d o) n.mods.edge (held n d before) (n.mods.cmask == 0) o.amount (All-head (λ x. x.amount ≤ 255) o os h),
  along_small n d (Some o) os (All-tail (λ x. x.amount ≤ 255) o os h),
)

small_drop : (k : ℕ) (ws : List ℕ) → AreSmall ws → AreSmall (drop k ws)
small_drop zero ws h = h
small_drop (suc k) [] h = tt
small_drop (suc k) (w ∷ ws) h = small_drop k ws h.1

small_sum : (k : ℕ) (ws : List ℕ) → AreSmall ws → sum (take k ws) ≤ 255 * k
small_sum zero ws h = omega arith
small_sum (suc k) [] h = omega arith
small_sum (suc k) (w ∷ ws) h =
    let rest = small_sum k ws h.1 in
    let more : sum (w ∷ take k ws) ≡ w + sum (take k ws) = sum_by-cons (λ x. x) w (take k ws) in
    omega (arith, rest, more, h.0)

asked_bounded : (thread : ℕ) (before further : List RegionLine) → All (λ l. count_of l.call < 2 ^ 32) (before ++ further)
    → asked_in thread before ≤ 4294967295 * length before
asked_bounded thread [] further h = omega arith
asked_bounded thread (l ∷ before) further h =
    let first : count_of l.call < 2 ^ 32 = All-head (λ x. count_of x.call < 2 ^ 32) l (before ++ further) h in
    let rest = asked_bounded thread before further (All-tail (λ x. count_of x.call < 2 ^ 32) l (before ++ further) h) in
    one (l.thread == thread) (count_of l.call) (asked_in thread before) (length before) first rest where
      one : (b : Bool) (c asked n : ℕ) → c < 2 ^ 32 → asked ≤ 4294967295 * n → (if b then c else 0) + asked ≤ 4294967295 * (suc n)
      one true c asked n small rest = omega (arith, small, rest)
      one false c asked n small rest = omega (arith, rest)

pub natives_are_exact : NativesAreExact
natives_are_exact book tape thread before further p n amounts regions =
    let q : ℕ = position tape thread before in
    let few : length (before ++ further) ≤ 90000 = regions.few in
    let long : length (before ++ further) ≡ length before + length further = length-append before further in
    let asked : asked_in thread before ≤ 4294967295 * length before = asked_bounded thread before further regions.counts in
    let bounded : count_between tape p q n ≤ 255 * (q - p) =
    small_sum (q - p) (drop p (weights tape n)) (small_drop p (weights tape n) (along_small n new_set.domain None tape amounts)) in
    let fits : count_between tape p q n < 2 ^ 63 = omega (arith, few, long, asked, bounded) in
    int_wrap_fits w64 (pos (count_between tape p q n)) (fits_signed_from_abs w64 (pos (count_between tape p q n)) fits)
