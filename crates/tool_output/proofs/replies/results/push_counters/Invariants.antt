use Rattle.tool_output.proofs.Words.{◌≡◌, ◌++◌, map, counter_text, members_below, spaced}
use Rattle.std.specs.Prelude.{string_bytes}
use Rattle.tool_output.proofs.replies.results.push_counters.Given as goal

abbrev pub invariant-loop-counter : goal.invariant-loop-counter
invariant-loop-counter l = string_bytes l.text ≡ string_bytes l.initial.text ++ spaced (map (counter_text l.catalog l.comp) (members_below l.counter l.counters))
