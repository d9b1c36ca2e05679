use Rattle.std.proofs.Common.{◌≡◌, [], replicate, vec_len}
use Rattle.region_report.specs.Opens.{stacks_text}
use Rattle.region_report.proofs.opened.none_yet.Given as goal

abbrev pub invariant-loop-thread : goal.invariant-loop-thread
invariant-loop-thread l = record {
  none : stacks_text l.threads.items ≡ replicate l._thread [];
  all : vec_len l.threads ≡ l._thread;
}
