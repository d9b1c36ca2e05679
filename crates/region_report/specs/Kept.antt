-- What a region script keeps: its limits, docs/FORMATS.md.
use Rattle.std.specs.Prelude.{◌<◌, ◌≤◌, ◌^◌, ℕ, All, List, length}
use Rattle.papi_base.specs.declared.limits.TheConstants.{THREADS}
use Rattle.region_report.specs.declared.regions.RegionCall.{RegionCall}
use Rattle.region_report.specs.declared.regions.RegionCall.TheVariants as call
use Rattle.region_report.specs.declared.regions.RegionLine.{RegionLine}
use Rattle.region_report.specs.declared.regions.TheConstants.{MOST_LINES}

-- how many occurrences a call asks for
abbrev pub count_of : RegionCall → ℕ
count_of (call.Begin name) = 0
count_of (call.Read name) = 0
count_of (call.End name) = 0
count_of (call.Run count) = count

-- not too many lines, each of a thread that there is, and each count of 32 bits
pub record IsRegions (lines : List RegionLine) : Type 0 where
  pub few : length lines ≤ MOST_LINES
  pub threads : All (λ l. l.thread < THREADS) lines
  pub counts : All (λ l. count_of l.call < 2 ^ 32) lines
