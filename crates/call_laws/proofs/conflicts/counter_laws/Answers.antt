use Rattle.call_laws.proofs.Conflicting.{assigns_least, conflicts_by_counters, conflicts_by_turns}
use Rattle.call_laws.proofs.conflicts.counter_laws.Goals as goal

pub returns : goal.returns
returns c = record { conflict = conflicts_by_counters; turns = conflicts_by_turns; assign = assigns_least }
