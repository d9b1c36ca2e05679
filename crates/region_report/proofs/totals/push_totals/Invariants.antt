use Rattle.region_report.proofs.Words.{◌≡◌, ◌++◌, drop, map, string_bytes, totals_text}
use Rattle.region_report.proofs.totals.push_totals.Given as goal

abbrev pub invariant-loop-i : goal.invariant-loop-i
invariant-loop-i l =
    string_bytes l.text ++ totals_text l.thread (drop l.i (map (λ n. n.now) l.names)) (drop l.i l.totals) ≡ string_bytes l.initial.text ++ totals_text l.thread (map (λ n. n.now) l.names) l.totals
