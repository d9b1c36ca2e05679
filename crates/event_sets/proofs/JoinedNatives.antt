-- Native events that join a list.
use Rattle.event_sets.proofs.Words.{nat_tests, ◌≡◌, ℕ, suc, ◌+◌, ◌<◌, ◌≤◌, Bool, true, false, List, [], ◌∷◌, ◌++◌, length, drop, ap, arith, slice_get}
use Rattle.event_sets.proofs.Words.{Some, length-append, All, if◌then◌else◌, All-push, Native, among, joined_by, drop_at}

next_grows : (b : Bool) (n : Native) (seen : List Native) → length seen ≤ length (if b then seen else seen ++ n ∷ [])
next_grows old n seen = grind (arith, nat_tests, length-append)

-- a list does not shrink
pub joined_grows : (seen more : List Native) → length seen ≤ length (joined_by seen more)
joined_grows seen [] = omega arith
joined_grows seen (n ∷ more) = omega (arith, next_grows (among n seen) n seen, joined_grows (if among n seen then seen else seen ++ n ∷ []) more)

-- one native more that is new, and one that is there
pub joins_new : (seen more all : List Native) (i : ℕ) (n : Native) → slice_get more i ≡ Some n → among n seen ≡ false → joined_by seen (drop i more) ≡ all
    → joined_by (seen ++ n ∷ []) (drop (i + 1) more) ≡ all
joins_new seen more all i n e new h = grind (arith, nat_tests, drop_at)

pub joins_old : (seen more all : List Native) (i : ℕ) (n : Native) → slice_get more i ≡ Some n → among n seen ≡ true → joined_by seen (drop i more) ≡ all
    → joined_by seen (drop (i + 1) more) ≡ all
joins_old seen more all i n e old h = grind (arith, nat_tests, drop_at)

-- a new one if there is no room makes too many
pub joined_over : (seen more all : List Native) (i : ℕ) (n : Native) → slice_get more i ≡ Some n → among n seen ≡ false → joined_by seen (drop i more) ≡ all
    → length seen < length all
joined_over seen more all i n e new h =
    let is = ap length (joins_new seen more all i n e new h) in
    omega (arith, length-append seen (n ∷ []), joined_grows (seen ++ n ∷ []) (drop (i + 1) more), is)

next_all : (P : Native → Type 0) (b : Bool) (n : Native) (seen : List Native) → All P seen → P n → All P (if b then seen else seen ++ n ∷ [])
next_all P true n seen h p = h
next_all P false n seen h p = All-push P seen n h p

-- what holds of both holds of all
pub joined_all : (P : Native → Type 0) (seen more : List Native) → All P seen → All P more → All P (joined_by seen more)
joined_all P seen [] h g = h
joined_all P seen (n ∷ more) h g = joined_all P (if among n seen then seen else seen ++ n ∷ []) more (next_all P (among n seen) n seen h (g 0 n (omega arith))) (λ k d b. g (suc k) d (omega arith))
