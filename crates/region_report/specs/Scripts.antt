-- A whole region script: this project's own format, docs/FORMATS.md.
use Rattle.std.specs.Prelude.{◌+◌, ◌==◌, ℕ, Bool, List, [], Result, Ok, Err, if◌then◌else◌, length, replicate}
use Rattle.std.specs.List.{list_all}
use Rattle.std.specs.Str.Lines.{lines}
use Rattle.papi_base.specs.declared.limits.TheConstants.{THREADS}
use Rattle.script_lines.specs.declared.fault.LineFault.{LineFault}
use Rattle.script_lines.specs.ByLine.{Format, ReadsLines, Refused, lines_from}
use Rattle.region_report.specs.Lines.{Open, after_line, after_reading, region_line}
use Rattle.region_report.specs.declared.fault.RegionCause.{RegionCause}
use Rattle.region_report.specs.declared.fault.RegionCause.TheVariants.{NotEnded}
use Rattle.region_report.specs.declared.regions.RegionLine.{RegionLine}
use Rattle.region_report.specs.declared.regions.Regions.{Regions}

-- no region is open
abbrev pub all_ended : List (List Open) → Bool
all_ended opens = list_all (λ (regions : List Open). length regions == 0) opens

-- each thread begins with no region open
abbrev pub none_open : List (List Open)
none_open = replicate THREADS []

-- what stands above a line: the numbers of call lines and of readings, and the regions that are open after them
pub record Above : Type 0 where
  pub lines : ℕ
  pub readings : ℕ
  pub opens : List (List Open)

-- what stands above a line
abbrev pub above_line : ℕ → ℕ → List (List Open) → Above
above_line lines readings opens = record { lines = lines; readings = readings; opens = opens }

-- region scripts, at whose end no region is open
abbrev pub region_scripts : Format Above RegionLine RegionCause
region_scripts = record {
  line_of = λ number above line. region_line number above.lines above.readings above.opens line;
  after = λ above line. above_line (above.lines + 1) (after_reading above.readings line) (after_line above.opens line);
  at_end = λ number above. if all_ended above.opens then Ok [] else Err (record { line = number; cause = NotEnded });
}

-- the call lines of a region script, or its first line that has a fault, with the first cause that it has
unfoldable pub regions_of : List ℕ → Result (List RegionLine) (Refused RegionCause)
regions_of bytes = lines_from region_scripts 1 (above_line 0 0 none_open) (lines bytes)

-- The answer to these bytes. Memory may run out at any script.
abbrev pub ReadsRegions : Result Regions (LineFault RegionCause) → List ℕ → Type 0
ReadsRegions result bytes = ReadsLines result (regions_of bytes)
