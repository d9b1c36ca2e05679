use Rattle.soak_input.proofs.Words.{◌≡◌, ◌++◌, map, take, string_bytes, call_lines}
use Rattle.soak_input.proofs.script.push_calls.Given as goal

abbrev pub invariant-loop-call : goal.invariant-loop-call
invariant-loop-call l = string_bytes l.text ≡ string_bytes l.initial.text ++ call_lines (map (λ s. s.now) (take l.call-index l.calls)) l.thread
