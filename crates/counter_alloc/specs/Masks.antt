-- Sets of counters as numbers, bit k for counter k.
use Rattle.std.specs.Prelude.{ℕ, ◌<◌, ◌^◌, List, length, map, slice_index}
use Rattle.papi_base.specs.declared.native.Native.{Native}

-- each is a set of counters below 32
abbrev pub AreMasks : List ℕ → Type 0
AreMasks allowed = (i : ℕ) → i < length allowed → slice_index allowed i < 2 ^ 32

-- the counters that each native is allowed
abbrev pub masks_of : List Native → List ℕ
masks_of natives = map (λ n. n.allowed) natives
