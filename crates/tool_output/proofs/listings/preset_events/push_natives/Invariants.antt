use Rattle.tool_output.proofs.Words.{◌≡◌, ◌++◌, string_bytes, flat_map, range_with_len, native_line}
use Rattle.tool_output.proofs.listings.preset_events.push_natives.Given as goal

abbrev pub invariant-loop-place : goal.invariant-loop-place
invariant-loop-place l = string_bytes l.text ≡ string_bytes l.fn.text ++ flat_map (native_line l.tables l.natives) (range_with_len 0 l.place-counter)
