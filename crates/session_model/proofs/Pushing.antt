-- One occurrence more: what it does to what sets weigh, and to the time.
use Rattle.session_model.proofs.Words.{nat_tests, ◌≡◌, ℕ, suc, ◌+◌, ◌≤◌, true, false, List, [], ◌∷◌, ◌++◌, length, refl, ap, ◌∙◌, arith, Option, Some}
use Rattle.session_model.proofs.Words.{None, length-drop, sum, drop-append-le, take-append-le, take-length, sum_by-append, Occ, Kept, last_after}
use Rattle.session_model.proofs.Words.{time_after, clock, along, weighed}

pub along-append : (weigh : Option Occ → Occ → ℕ) (before : Option Occ) (past : List Occ) (o : Occ) → along weigh before (past ++ o ∷ []) ≡ along weigh before past ++ weigh (last_after before past) o ∷ []
along-append weigh before [] o = refl
along-append weigh before (p ∷ past) o = ap (λ xs. weigh before p ∷ xs) (along-append weigh (Some p) past o)

pub length-along : (weigh : Option Occ → Occ → ℕ) (before : Option Occ) (past : List Occ) → length (along weigh before past) ≡ length past
length-along weigh before [] = refl
length-along weigh before (p ∷ past) = ap suc (length-along weigh (Some p) past)

pub last_after-append : (before : Option Occ) (past : List Occ) (o : Occ) → last_after before (past ++ o ∷ []) ≡ Some o
last_after-append before [] o = refl
last_after-append before (p ∷ past) o = last_after-append (Some p) past o

sum-push : (xs : List ℕ) (x : ℕ) → sum (xs ++ x ∷ []) ≡ sum xs + x
sum-push xs x = sum_by-append (λ y. y) xs (x ∷ []) ∙ omega arith

-- a running set weighs one occurrence more
pub weighed_running : (weigh : Option Occ → Occ → ℕ) (past : List Occ) (o : Occ) (s : Kept) → s.running ≡ true → s.from ≤ length past
    → weighed weigh (past ++ o ∷ []) s ≡ weighed weigh past s + weigh (last_after None past) o
weighed_running weigh past o s runs h = grind (arith, nat_tests, length-along, along-append, drop-append-le, sum-push)

-- a stopped set keeps what it weighed
pub weighed_stopped : (weigh : Option Occ → Occ → ℕ) (past : List Occ) (o : Occ) (s : Kept) → s.running ≡ false → s.from ≤ s.to → s.to ≤ length past
    → weighed weigh (past ++ o ∷ []) s ≡ weighed weigh past s
weighed_stopped weigh past o s stopped h k = grind (arith, nat_tests, length-along, along-append, drop-append-le, take-append-le, length-drop)

-- the clock of the past stays, and that of now is the time after the last occurrence
pub clock_stays : (past : List Occ) (o : Occ) (k : ℕ) → k ≤ length past → clock (past ++ o ∷ []) k ≡ clock past k
clock_stays past o k h = ap (λ xs. time_after (last_after None xs)) (take-append-le k past (o ∷ []) h)

pub clock_now : (past : List Occ) → clock past (length past) ≡ time_after (last_after None past)
clock_now past = ap (λ xs. time_after (last_after None xs)) (take-length past)
