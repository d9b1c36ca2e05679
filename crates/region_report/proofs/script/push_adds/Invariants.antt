use Rattle.region_report.proofs.Words.{◌≡◌, ◌++◌, string_bytes, take, flat_map, add_text}
use Rattle.region_report.proofs.script.push_adds.Given as goal

abbrev pub invariant-loop-event : goal.invariant-loop-event
invariant-loop-event l = string_bytes l.text ≡ string_bytes l.initial.text ++ flat_map (add_text l.thread) (take l.event-index l.events)
