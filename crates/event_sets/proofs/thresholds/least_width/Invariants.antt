-- the least of the widths so far
use Rattle.event_sets.proofs.Words.{◌≡◌, ◌≤◌, take, least_width}
use Rattle.event_sets.proofs.thresholds.least_width.Given as goal

abbrev pub invariant-loop-c : goal.invariant-loop-c
invariant-loop-c l = record {
  least : l.least ≡ least_width (take l.c l.comp);
  high : l.least ≤ 48;
}
