use Rattle.tool_output.proofs.Words.{string_bytes, option_copied}
use Rattle.tool_output.proofs.ListedEvents.{AreListed}
use Rattle.tool_output.proofs.listings.native_lists.push_component.Given as goal

abbrev pub invariant-loop-event : goal.invariant-loop-event
invariant-loop-event l =
    AreListed (string_bytes l.component.pmu) (option_copied l.selection.included) (option_copied l.selection.excluded) l.selection.umasks l.component.events.items l.event-index
    (string_bytes l.initial.text) (string_bytes l.text) l.listed
