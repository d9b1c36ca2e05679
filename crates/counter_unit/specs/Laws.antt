-- A register and its bank are functions of the count.
use Rattle.std.specs.Prelude.{◌≡◌, ℕ, ◌+◌, ◌/◌, ◌^◌, ◌<◌, ◌≤◌, nat_lt}
use Rattle.papi_base.specs.declared.native.Native.{Native}
use Rattle.papi_base.specs.declared.bits.Domain.{Domain}
use Rattle.papi_base.specs.declared.limits.TheConstants.{LARGEST_AMOUNT, LEAST_WIDTH}
use Rattle.counter_unit.specs.Counting.{IsThreshold, period, moved, carries, register_at, whole, wrapped}

-- what holds when a weight is added to a count: the register and its bank are those of the new count, and it carries if the
-- count passes a multiple of its period
pub record Added (w : ℕ) (n : Native) (d : Domain) (t count more : ℕ) : Type 0 where
  pub register : moved w more (register_at w n d t count) ≡ register_at w n d t (count + more)
  pub carried : carries w more (register_at w n d t count) ≡ nat_lt (count / period w t) ((count + more) / period w t)

-- it holds of every weight
abbrev pub FollowsCount : Type 0
FollowsCount = (w : ℕ) (n : Native) (d : Domain) (t count more : ℕ) → LEAST_WIDTH ≤ w → IsThreshold w t → more ≤ LARGEST_AMOUNT → Added w n d t count more

-- what was carried away and what the register is above its beginning are the count in 64 bits: nothing else is lost
abbrev pub LosesNothing : Type 0
LosesNothing = (w : ℕ) (n : Native) (d : Domain) (t count : ℕ) → whole w (register_at w n d t count) ≡ wrapped count

-- they are the count itself if it fits 64 bits
abbrev pub IsExact : Type 0
IsExact = (w : ℕ) (n : Native) (d : Domain) (t count : ℕ) → count < 2 ^ 64 → whole w (register_at w n d t count) ≡ count
