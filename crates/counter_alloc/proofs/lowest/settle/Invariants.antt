-- only what the place is allowed has changed, and no counter so far would do
use Rattle.counter_alloc.proofs.Words.{◌≡◌, AreMasks}
use Rattle.counter_alloc.proofs.FirstAssignment.{Tried}
use Rattle.counter_alloc.proofs.lowest.settle.Given as goal

abbrev pub invariant-loop-counter : goal.invariant-loop-counter
invariant-loop-counter l = record {
  masks : AreMasks l.initial.allowed;
  unchanged : l.chosen ≡ l.initial.chosen;
  tried : Tried l.initial.allowed l.allowed l.place l.counter;
}
