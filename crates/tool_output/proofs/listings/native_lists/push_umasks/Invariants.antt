use Rattle.tool_output.proofs.Words.{◌≡◌, ◌++◌, map, string_bytes, take, flat_map, mask_text, umask_line}
use Rattle.tool_output.proofs.listings.native_lists.push_umasks.Given as goal

abbrev pub invariant-loop-umask : goal.invariant-loop-umask
invariant-loop-umask l = string_bytes l.text ≡ string_bytes l.fn.text ++ flat_map umask_line (map mask_text (take l.umask-index l.masks))
