use Rattle.tool_output.proofs.Words.{◌≡◌, ◌++◌, map, take, canonical, spaced}
use Rattle.std.specs.Prelude.{string_bytes}
use Rattle.tool_output.proofs.replies.results.push_natives.Given as goal

abbrev pub invariant-loop-i : goal.invariant-loop-i
invariant-loop-i l = string_bytes l.text ≡ string_bytes l.initial.text ++ spaced (map (canonical l.catalog.tables) (take l.i l.natives))
