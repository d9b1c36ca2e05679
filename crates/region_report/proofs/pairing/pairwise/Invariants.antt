use Rattle.region_report.proofs.Words.{◌≡◌, ◌++◌, drop, length, pairwise}
use Rattle.region_report.proofs.pairing.pairwise.Given as goal

abbrev pub invariant-loop-i : goal.invariant-loop-i
invariant-loop-i g l = record {
  so_far : l.values ++ pairwise g.P.Pairing.makes (drop l.i l.first) (drop l.i l.second) ≡ pairwise g.P.Pairing.makes l.first l.second;
  long : length l.values ≡ l.i;
}
