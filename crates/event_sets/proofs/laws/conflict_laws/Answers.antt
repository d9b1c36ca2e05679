use Rattle.event_sets.proofs.LeastClash.{add_conflict_is_least, conflict_is_least}
use Rattle.event_sets.proofs.laws.conflict_laws.Goals as goal

pub returns : goal.returns
returns c = record { least = conflict_is_least; add = add_conflict_is_least }
