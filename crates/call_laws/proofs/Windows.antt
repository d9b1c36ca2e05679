-- Occurrences with those before them, and the windows of sets over them.
use Rattle.call_laws.proofs.Words.{nat_tests, ◌≡◌, ℕ, zero, suc, ◌+◌, ◌≤◌, true, false, List, [], ◌∷◌, ◌++◌, length, take, drop, map, refl, ap, arith}
use Rattle.call_laws.proofs.Words.{length-drop, Option, Some, None, drop-append-le, drop-map, drop_all, take_all, take-append-le, take-map, take-add}
use Rattle.call_laws.proofs.Words.{Occ, Kept, last_after, zeroed, along, in_window, weighed, OccAfter, placed_after}
use Rattle.std.specs.Prelude.{if◌then◌else◌, sum}

pub placed-take : (before : Option Occ) (n : ℕ) (os : List Occ) → placed_after before (take n os) ≡ take n (placed_after before os)
placed-take before zero os = refl
placed-take before (suc n) [] = refl
placed-take before (suc n) (o ∷ os) = ap (λ ps. record { before = before; occ = o } ∷ ps) (placed-take (Some o) n os)

pub placed-drop : (before : Option Occ) (n : ℕ) (os : List Occ) → drop n (placed_after before os) ≡ placed_after (last_after before (take n os)) (drop n os)
placed-drop before zero os = refl
placed-drop before (suc n) [] = refl
placed-drop before (suc n) (o ∷ os) = placed-drop (Some o) n os

pub length-placed : (before : Option Occ) (os : List Occ) → length (placed_after before os) ≡ length os
length-placed before [] = refl
length-placed before (o ∷ os) = ap suc (length-placed (Some o) os)

along-placed : (weigh : Option Occ → Occ → ℕ) (before : Option Occ) (os : List Occ) → along weigh before os ≡ map (λ p. weigh p.before p.occ) (placed_after before os)
along-placed weigh before [] = refl
along-placed weigh before (o ∷ os) = ap (λ ws. weigh before o ∷ ws) (along-placed weigh (Some o) os)

window-map : {X Y : Type 0} (f : X → Y) (s : Kept) (xs : List X) → in_window s (map f xs) ≡ map f (in_window s xs)
window-map f s xs = grind (arith, nat_tests, drop-map, take-map)

-- what is weighed is the sum over the occurrences of the window
pub weighed_is : (weigh : Option Occ → Occ → ℕ) (past : List Occ) (s : Kept) → weighed weigh past s ≡ sum (map (λ (p : OccAfter). weigh p.before p.occ) (in_window s (placed_after None past)))
weighed_is weigh past s = grind (arith, nat_tests, along-placed, window-map)

-- ---- windows over more occurrences

-- a running set has what comes in its window
pub window-more : {X : Type 0} (s : Kept) (all : List X) (n k : ℕ) → s.running ≡ true → s.from ≤ length (take n all)
    → in_window s (take (n + k) all) ≡ in_window s (take n all) ++ take k (drop n all)
window-more s all n k runs from_in = rw (runs, take-add n k all) (drop-append-le s.from (take n all) (take k (drop n all)) from_in)

-- a stopped set has not
pub window-kept : {X : Type 0} (s : Kept) (all : List X) (n k : ℕ) → s.running ≡ false → s.from ≤ s.to → s.to ≤ length (take n all)
    → in_window s (take (n + k) all) ≡ in_window s (take n all)
window-kept s all n k stopped in_order to_in = grind (arith, nat_tests, take-add, drop-append-le, take-append-le, length-drop)

-- ---- windows after calls

-- a set that is zeroed has an empty window
pub window-zeroed : {X : Type 0} (now : ℕ) (s : Kept) (xs : List X) → length xs ≡ now → in_window (zeroed now s) xs ≡ []
window-zeroed now s xs same = grind (arith, nat_tests, drop_all)

-- a set that is stopped keeps its window
pub window-stopped : {X : Type 0} (s : Kept) (xs : List X) (now : ℕ) → length xs ≡ now → s.from ≤ s.to → s.to ≤ now
    → in_window (record s { running = false; to = if s.running then now else s.to }) xs ≡ in_window s xs
window-stopped s xs now same in_order past = grind (arith, nat_tests, take_all, length-drop)
