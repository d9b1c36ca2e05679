use Rattle.event_tables.proofs.Words.{◌≡◌, take, str_to_ascii_lowercase}
use Rattle.event_tables.proofs.lower_name.LowerName.of_name.Given as goal

abbrev pub invariant-loop-b : goal.invariant-loop-b
invariant-loop-b l = l.text.bytes ≡ str_to_ascii_lowercase (take l.b-index l.name)
