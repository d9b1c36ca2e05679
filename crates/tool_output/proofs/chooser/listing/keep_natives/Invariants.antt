-- those of the umasks so far
use Rattle.tool_output.proofs.Words.{◌≡◌, ◌++◌, filter, map, range_with_len, component_text, event_text, found, with_umask, takes}
use Rattle.tool_output.proofs.chooser.listing.keep_natives.Given as goal

abbrev pub invariant-loop-umask : goal.invariant-loop-umask
invariant-loop-umask l =
    l.events.items ≡ l.initial.events.items ++ filter (takes l.catalog l.set.rest) (map (with_umask (found l.comp l.row (component_text l.component) (event_text l.event))) (range_with_len 0 l.umask))
