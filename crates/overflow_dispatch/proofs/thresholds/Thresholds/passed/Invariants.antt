use Rattle.std.proofs.Common.{◌≡◌, ◌<◌, ◌++◌, drop}
use Rattle.std.specs.Prelude.{All}
use Rattle.overflow_dispatch.specs.Passing.{carried_from}
use Rattle.overflow_dispatch.proofs.thresholds.Thresholds.passed.Given as goal

abbrev pub invariant-loop-index : goal.invariant-loop-index
invariant-loop-index l = record {
  below : All (λ k. k < l.index) l.passed;
  done : l.passed ++ carried_from l.index l.carry (drop l.index l.self-inside.counters) ≡ carried_from 0 l.carry l.self-inside.counters;
}
