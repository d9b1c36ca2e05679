-- What holds of every account that calls lead to, and that this project's proofs rest on.
use Rattle.std.specs.Prelude.{ℕ, ◌+◌, ◌≤◌, ◌≡◌, length, List, [], ◌∷◌, All, Option, Some, count_by}
use Rattle.std.specs.Option.{ForSome}
use Rattle.papi_base.specs.declared.occurrence.Occ.{Occ}
use Rattle.papi_base.specs.declared.limits.TheConstants.{LARGEST_AMOUNT}
use Rattle.session_model.specs.Account.{Kept}
use Rattle.session_model.specs.Faces.{Face, runs_on}

-- from this time on the stamps rise and the amounts are those of occurrences
abbrev pub Rises : ℕ → List Occ → Type 0
Rises time [] = Unit {0}
Rises time (o ∷ os) = (time ≤ o.stamp) × (o.amount ≤ LARGEST_AMOUNT) × Rises (o.stamp + 1) os

-- the window lies in the past
pub record IsWithin (end : ℕ) (s : Kept) : Type 0 where
  pub in_order : s.from ≤ s.to
  pub past : s.to ≤ end

-- the window of each set lies in the past
pub record AllWithin (end : ℕ) (sets : List (Option Kept)) : Type 0 where
  pub each : All (λ place. ForSome place (IsWithin end)) sets

-- of each component at most one set runs
pub record AreApart (faces : List (Option Face)) : Type 0 where
  pub each : (c : ℕ) → count_by (runs_on (Some c)) faces ≤ 1

-- the caller's values are one for each event
pub record IsValued (s : Kept) : Type 0 where
  pub one_each : length s.values ≡ length s.set.events

-- each set has a caller's value for each of its events
pub record AllValued (sets : List (Option Kept)) : Type 0 where
  pub each : All (λ place. ForSome place IsValued) sets
