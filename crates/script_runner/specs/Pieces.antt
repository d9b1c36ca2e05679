-- Text that is written in pieces.
use Rattle.std.specs.Prelude.{◌≡◌, ◌≤◌, ◌++◌, ℕ, List, Option, length, take}
use Rattle.papi_base.specs.Outside.{appended}

-- A prefix of this text was written: what a sink had taken before, and what it has taken since.
abbrev pub IsPartWritten : Option (List ℕ) → Option (List ℕ) → List ℕ → Type 0
IsPartWritten before after text = (k : ℕ) × (k ≤ length text) × (after ≡ appended before (take k text))

-- This text was written but for what is gathered of it at its end.
pub record IsWrittenSoFar (before after : Option (List ℕ)) (text gathered : List ℕ) : Type 0 where
  pub written : List ℕ
  pub taken : after ≡ appended before written
  pub whole : text ≡ written ++ gathered
