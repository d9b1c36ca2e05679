use Rattle.region_report.proofs.Words.{◌≡◌, ◌++◌, string_bytes, take, flat_map, line_text}
use Rattle.region_report.proofs.script.push_lines.Given as goal

abbrev pub invariant-loop-line : goal.invariant-loop-line
invariant-loop-line l = string_bytes l.text ≡ string_bytes l.initial.text ++ flat_map line_text (take l.line-index l.lines)
