use Rattle.profil_hist.proofs.Words.{◌≡◌, map, take, counts_text, no_counts, range_text}
use Rattle.profil_hist.proofs.counts.zeros_of.Given as goal

abbrev pub invariant-loop-r : goal.invariant-loop-r
invariant-loop-r l = map counts_text l.rows.items ≡ no_counts (map range_text (take l.r-index l.ranges))
