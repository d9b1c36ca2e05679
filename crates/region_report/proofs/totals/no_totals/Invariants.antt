use Rattle.region_report.proofs.Words.{◌≡◌, pos, replicate}
use Rattle.region_report.proofs.totals.no_totals.Given as goal

abbrev pub invariant-loop-region : goal.invariant-loop-region
invariant-loop-region l = l.totals.items ≡ replicate l._region (record { instances = 0; values = replicate l.events (pos 0) })
