-- those of the rows so far
use Rattle.tool_output.proofs.Words.{◌≡◌, ◌++◌, filter, flat_map, range_with_len, component_text, natives_in_row, takes}
use Rattle.tool_output.proofs.chooser.listing.keep_component.Given as goal

abbrev pub invariant-loop-row : goal.invariant-loop-row
invariant-loop-row l =
    l.events.items ≡ l.initial.events.items ++ filter (takes l.catalog l.set.rest) (flat_map (natives_in_row l.comp (component_text l.component)) (range_with_len 0 l.row))
