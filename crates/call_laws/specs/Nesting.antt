-- The lines that read the counters, in their order, and the lines at which regions begin.
use Rattle.std.specs.Prelude.{ℕ, zero, suc, ◌==◌, ◌≡◌, ◌≤◌, ◌⊎◌, true, if◌then◌else◌, List, [], ◌∷◌, ◌++◌, filter, slice_get, Option, Some, None, Ok}
use Rattle.std.specs.Option.{option_and_then}
use Rattle.region_report.specs.Lines.{is_reading}
use Rattle.region_report.specs.Reports.{is_begin, name_of}
use Rattle.region_report.specs.Scripts.{regions_of}
use Rattle.region_report.specs.declared.regions.RegionCall.{RegionCall}
use Rattle.region_report.specs.declared.regions.RegionCall.TheVariants as call
use Rattle.region_report.specs.declared.regions.RegionLine.{RegionLine}

-- the line that has the reading of this number, from 0
abbrev pub reading_line : List RegionLine → ℕ → RegionLine → Type 0
reading_line lines i line = slice_get (filter is_reading lines) i ≡ Some line

-- the lines before it
abbrev pub before_reading : List RegionLine → ℕ → List RegionLine
before_reading [] i = []
before_reading (line ∷ lines) zero = if is_reading line then [] else line ∷ before_reading lines zero
before_reading (line ∷ lines) (suc i) = line ∷ before_reading lines (if is_reading line then i else suc i)

-- ---- nesting

-- how many regions are open after a call, if n were before it; no region ends if none is open
abbrev pub depth_with : ℕ → RegionCall → Option ℕ
depth_with n (call.Begin name) = Some (suc n)
depth_with n (call.Read name) = Some n
depth_with zero (call.End name) = None
depth_with (suc n) (call.End name) = Some n
depth_with n (call.Run count) = Some n

-- how many regions of a thread are, after a line
abbrev pub depth_after_line : ℕ → ℕ → RegionLine → Option ℕ
depth_after_line thread n line = if line.thread == thread then depth_with n line.call else Some n

-- and after some lines
abbrev pub depth_after : ℕ → ℕ → List RegionLine → Option ℕ
depth_after thread n [] = Some n
depth_after thread n (line ∷ lines) = option_and_then (λ m. depth_after thread m lines) (depth_after_line thread n line)

-- between a line that begins a region and a later one each region of the thread that begins also ends, and no other one ends
abbrev pub Encloses : ℕ → RegionLine → List RegionLine → List RegionLine → Type 0
Encloses thread begin above before = (between : List RegionLine) × (before ≡ above ++ begin ∷ between) × (depth_after thread 0 between ≡ Some 0)

-- The line has the reading of the number i. It names the reading of a line of its thread that begins the same region: its own one, or the
-- one whose region is the innermost that is open at the line.
pub record IsBegun (lines : List RegionLine) (i : ℕ) (line : RegionLine) : Type 0 where
  pub begin : RegionLine
  pub at : reading_line lines line.begun begin
  pub not_later : line.begun ≤ i
  pub begins : is_begin begin.call ≡ true
  pub same_thread : begin.thread ≡ line.thread
  pub same_name : name_of begin.call ≡ name_of line.call
  pub innermost : ((is_begin line.call ≡ true) × (line.begun ≡ i)) ⊎ Encloses line.thread begin (before_reading lines line.begun) (before_reading lines i)

-- so does each line that reads the counters
pub record AreBegun (lines : List RegionLine) : Type 0 where
  pub each : (i : ℕ) (line : RegionLine) → reading_line lines i line → IsBegun lines i line

-- the lines of each region script do
abbrev pub ScriptsAreBegun : Type 0
ScriptsAreBegun = (bytes : List ℕ) (lines : List RegionLine) → regions_of bytes ≡ Ok lines → AreBegun lines
