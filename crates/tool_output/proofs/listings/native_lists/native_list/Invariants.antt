use Rattle.tool_output.proofs.Words.{[], string_bytes, option_copied}
use Rattle.tool_output.proofs.ListedEvents.{AreAllListed}
use Rattle.tool_output.proofs.listings.native_lists.native_list.Given as goal

abbrev pub invariant-loop-place : goal.invariant-loop-place
invariant-loop-place l = AreAllListed (option_copied l.selection.included) (option_copied l.selection.excluded) l.selection.umasks l.tables l.place [] (string_bytes l.text) l.total
