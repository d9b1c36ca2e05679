-- Counts over a region script stay below 2^63: the lines of a script and the occurrences that a line asks for have limits, and an amount has 8 bits.
use Rattle.std.specs.Prelude.{ℕ, ◌≡◌, ◌≤◌, pos, List, ◌++◌, All}
use Rattle.papi_base.specs.declared.native.EventRef.TheVariants as event
use Rattle.papi_base.specs.declared.native.Native.{Native}
use Rattle.papi_base.specs.declared.occurrence.Occ.{Occ}
use Rattle.papi_base.specs.declared.limits.TheConstants.{LARGEST_AMOUNT}
use Rattle.postfix_rules.specs.Presets.{Book}
use Rattle.region_report.specs.Kept.{IsRegions}
use Rattle.region_report.specs.declared.regions.RegionLine.{RegionLine}
use Rattle.call_laws.specs.Positions.{count_between, position, value_between}

-- so the value of a native event is the sum of its weights as it is
abbrev pub NativesAreExact : Type 0
NativesAreExact = (book : Book) (tape : List Occ) (thread : ℕ) (before further : List RegionLine) (p : ℕ) (n : Native)
    → All (λ o. o.amount ≤ LARGEST_AMOUNT) tape → IsRegions (before ++ further)
    → value_between book tape p (position tape thread before) (event.Native n) ≡ pos (count_between tape p (position tape thread before) n)
