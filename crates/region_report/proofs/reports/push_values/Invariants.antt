use Rattle.region_report.proofs.Words.{◌≡◌, ◌++◌, string_bytes, take, values_text}
use Rattle.region_report.proofs.reports.push_values.Given as goal

abbrev pub invariant-loop-i : goal.invariant-loop-i
invariant-loop-i l = string_bytes l.text ≡ string_bytes l.initial.text ++ values_text (take l.i l.values)
