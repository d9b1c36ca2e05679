use Rattle.tool_output.proofs.Words.{◌≡◌, ◌++◌, map, members_below, spaced}
use Rattle.std.specs.Prelude.{decimal, string_bytes}
use Rattle.tool_output.proofs.replies.results.push_threads.Given as goal

abbrev pub invariant-loop-thread : goal.invariant-loop-thread
invariant-loop-thread l = string_bytes l.text ≡ string_bytes l.initial.text ++ spaced (map decimal (members_below l.thread l.threads))
