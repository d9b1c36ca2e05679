use Rattle.tool_output.proofs.Words.{◌≡◌, ◌++◌, map, take, event_name, spaced}
use Rattle.std.specs.Prelude.{string_bytes}
use Rattle.tool_output.proofs.replies.results.push_events.Given as goal

abbrev pub invariant-loop-i : goal.invariant-loop-i
invariant-loop-i l = string_bytes l.text ≡ string_bytes l.initial.text ++ spaced (map (event_name l.catalog) (take l.i l.events))
