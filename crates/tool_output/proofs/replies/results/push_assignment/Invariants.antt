use Rattle.tool_output.proofs.Words.{◌≡◌, ◌++◌, map, take, assigned_text, spaced}
use Rattle.std.specs.Prelude.{string_bytes, zip}
use Rattle.tool_output.proofs.replies.results.push_assignment.Given as goal

abbrev pub invariant-loop-i : goal.invariant-loop-i
invariant-loop-i l = string_bytes l.text ≡ string_bytes l.initial.text ++ spaced (map (assigned_text l.catalog) (take l.i (zip l.assigned.natives l.assigned.counters)))
