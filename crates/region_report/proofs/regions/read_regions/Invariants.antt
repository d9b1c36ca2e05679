use Rattle.region_report.proofs.Words.{◌≤◌, length, Reads, IsRegions, above_line, none_open, region_scripts}
use Rattle.region_report.proofs.regions.read_regions.Given as goal

abbrev pub invariant-loop-rest : goal.invariant-loop-rest
invariant-loop-rest l = record {
  reads : Reads region_scripts (above_line 0 0 none_open) l.bytes l.rest l.number (above_line (length l.lines.items) l.readings l.opens) l.lines.items;
  few_readings : l.readings ≤ length l.lines.items;
  kept : IsRegions l.lines.items;
}

abbrev pub decreases-loop-rest : goal.decreases-loop-rest
decreases-loop-rest l = length l.rest
