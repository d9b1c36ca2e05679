-- The totals of `papi_regions`: the lines of the reads and ends of regions are exact, and a total is their sum, wrapped to 64 bits.
use Rattle.std.specs.Prelude.{ℕ, ◌≡◌, ℤ, List, All, FitsSigned, filter, map}
use Rattle.std.specs.Int.{w64}
use Rattle.papi_base.specs.Streams.{Coming}
use Rattle.papi_base.specs.declared.native.EventRef.{EventRef}
use Rattle.postfix_rules.specs.Presets.{Book}
use Rattle.call_laws.specs.Spans.{region_spans}
use Rattle.call_laws.specs.Values.{column_sums, wrapped_sums}
use Rattle.region_report.specs.Reports.{ends, total}
use Rattle.region_report.specs.Spans.{Span}
use Rattle.region_report.specs.declared.regions.RegionLine.{RegionLine}

-- what the lines that end an instance of a region of a thread show of it
abbrev pub ended_values : ℕ → List ℕ → List Span → List (List ℤ)
ended_values thread name spans = map (λ s. s.values) (filter (ends thread name) spans)

-- The total of a region over n events: the sum of each event over the lines that end the region, wrapped to signed 64 bits, which is the
-- sum as it is if it has 64 bits.
pub record IsSumOfEnds (n thread : ℕ) (name : List ℕ) (spans : List Span) : Type 0 where
  pub wraps : total n thread name spans ≡ wrapped_sums n (ended_values thread name spans)
  pub exact : All (FitsSigned w64) (column_sums n (ended_values thread name spans)) → total n thread name spans ≡ column_sums n (ended_values thread name spans)

-- each total of a report is: of what regions count by positions
abbrev pub TotalsAreSums : Type 0
TotalsAreSums = (book : Book) (streams : List Coming) (events : List EventRef) (lines : List RegionLine) (n thread : ℕ) (name : List ℕ)
    → IsSumOfEnds n thread name (region_spans book streams events lines)
