-- those of the components, or of the rows, so far
use Rattle.tool_output.proofs.Words.{◌≡◌, filter, flat_map, range_with_len, natives_at, preset_in, takes}
use Rattle.tool_output.proofs.chooser.listing.taken_by.Given as goal

abbrev pub invariant-loop-comp : goal.invariant-loop-comp
invariant-loop-comp l = l.events.items ≡ filter (takes l.catalog l.set.rest) (flat_map (natives_at l.catalog.tables) (range_with_len 0 l.comp))

abbrev pub invariant-loop-row : goal.invariant-loop-row
invariant-loop-row l = l.events.items ≡ filter (takes l.catalog l.set.rest) (flat_map (preset_in l.catalog.book) (range_with_len 0 l.row))
