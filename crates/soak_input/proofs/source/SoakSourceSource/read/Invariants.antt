use Rattle.soak_input.proofs.Words.{◌≡◌, ◌≤◌, ◌-◌, ◌++◌, length, take, text_left}
use Rattle.soak_input.proofs.source.SoakSourceSource.read.Given as goal

abbrev pub invariant-loop-filled : goal.invariant-loop-filled
invariant-loop-filled l = record {
  within : l.filled ≤ length l.buf;
  text : text_left l.initial.self ≡ take l.filled l.buf ++ text_left l.self;
}

abbrev pub decreases-loop-filled : goal.decreases-loop-filled
decreases-loop-filled l = length l.initial.buf - l.filled
