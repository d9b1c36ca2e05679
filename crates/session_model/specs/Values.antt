-- The values of a set's events: PAPI_read(3).
use Rattle.std.specs.Prelude.{ℕ, ℤ, List, [], ◌∷◌, map, Option, Some, None}
use Rattle.std.specs.Int.{int_wrapping_add, w64}
use Rattle.papi_base.specs.declared.occurrence.Occ.{Occ}
use Rattle.papi_base.specs.declared.native.Native.{Native}
use Rattle.postfix_rules.specs.Presets.{Book, event_value}
use Rattle.session_model.specs.Account.{Kept}
use Rattle.session_model.specs.Counts.{count}
use Rattle.session_model.specs.Estimates.{estimated}

-- a native's count, or its estimate if the set is multiplexed
abbrev pub measured : Option ℕ → Book → List Occ → Kept → Native → ℕ
measured None book past s n = count past s n
measured (Some slice) book past s n = estimated book past s slice n

-- the value of each event
abbrev pub values_of : Book → List Occ → Kept → List ℤ
values_of book past s = map (event_value book (measured s.set.slice book past s)) s.set.events

-- each value and what is added to it, wrapped to signed 64 bits
abbrev pub sums : List ℤ → List ℤ → List ℤ
sums [] xs = []
sums (v ∷ vs) [] = []
sums (v ∷ vs) (x ∷ xs) = int_wrapping_add w64 v x ∷ sums vs xs

-- the caller's values with the set's added: PAPI_accum(3)
abbrev pub accumulated : Book → List Occ → Kept → List ℤ
accumulated book past s = sums s.values (values_of book past s)
