use Rattle.std.proofs.Common.{rules}
use Rattle.multiplex.proofs.Ticks.{runs_evenly, active_in_turns, active_within, one_group_active}
use Rattle.multiplex.proofs.Estimates.{one_group_estimate}
use Rattle.multiplex.proofs.Grouping.{each_has_group}
use Rattle.multiplex.proofs.Parts.{groups_are_parts}
use Rattle.multiplex.proofs.laws.rotation_laws.Goals as goal

pub returns : goal.returns
returns c = search (rules, runs_evenly, active_in_turns, active_within, one_group_active, one_group_estimate, each_has_group, groups_are_parts)
