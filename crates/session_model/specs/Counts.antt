-- How much of a native event a set counted: PAPI_read(3).
use Rattle.std.specs.Prelude.{ℕ, ◌-◌, if◌then◌else◌, List, [], ◌∷◌, take, drop, sum, Option, Some, None}
use Rattle.papi_base.specs.declared.occurrence.Occ.{Occ}
use Rattle.papi_base.specs.declared.native.Native.{Native}
use Rattle.papi_base.specs.Weight.{weight_of}
use Rattle.session_model.specs.Account.{Kept}

-- what each occurrence weighs, if `before` came just before the first
abbrev pub along : (Option Occ → Occ → ℕ) → Option Occ → List Occ → List ℕ
along weigh before [] = []
along weigh before (o ∷ os) = weigh before o ∷ along weigh (Some o) os

-- the part of a list that lies in the set's window
abbrev pub in_window : {X : Type 0} → Kept → List X → List X
in_window s xs = if s.running then drop s.from xs else take (s.to - s.from) (drop s.from xs)

-- the sum of the weights over the set's window
abbrev pub weighed : (Option Occ → Occ → ℕ) → List Occ → Kept → ℕ
weighed weigh past s = sum (in_window s (along weigh None past))

-- the sum of a native's weights over the set's window
abbrev pub count : List Occ → Kept → Native → ℕ
count past s n = weighed (weight_of n s.set.domain) past s
