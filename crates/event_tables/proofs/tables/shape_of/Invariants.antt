use Rattle.event_tables.proofs.Words.{◌≡◌, map, take, shape_of, component_text}
use Rattle.event_tables.proofs.tables.shape_of.Given as goal

abbrev pub invariant-loop-c : goal.invariant-loop-c
invariant-loop-c l = l.shape ≡ shape_of (map component_text (take l.c-index l.components))
