-- Lists of numbers, each of which stands for an event.
use Rattle.std.specs.Prelude.{ℕ, ◌<◌, List, All, length, map, slice_index_or}
use Rattle.papi_base.specs.declared.native.EventRef.{EventRef}
use Rattle.papi_base.specs.declared.native.EventRef.TheVariants as event

-- the event of a number
abbrev pub event_at : List EventRef → ℕ → EventRef
event_at known n = slice_index_or known n (event.Preset 0)

-- the events of numbers
abbrev pub numbered : List EventRef → List ℕ → List EventRef
numbered known numbers = map (event_at known) numbers

-- each number is that of a known event
abbrev pub AreNumbers : List EventRef → List ℕ → Type 0
AreNumbers known numbers = All (λ n. n < length known) numbers
