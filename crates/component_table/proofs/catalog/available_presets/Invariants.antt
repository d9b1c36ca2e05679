use Rattle.component_table.proofs.Keeping.{Cleared}
use Rattle.component_table.proofs.catalog.available_presets.Given as goal

abbrev pub invariant-loop-row : goal.invariant-loop-row
invariant-loop-row l = Cleared l.book l.initial.presets l.row l.presets
