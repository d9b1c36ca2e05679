use Rattle.thread_session.proofs.Words.{◌≡◌, ◌++◌, ◌+◌, drop, length, map, take, note}
use Rattle.thread_session.proofs.filling.place.Given as goal

abbrev pub invariant-loop-i : goal.invariant-loop-i
invariant-loop-i l = record {
  size : length l.out ≡ length l.initial.out;
  written : take (l.at + l.i) l.out ≡ take l.at l.initial.out ++ take l.i (map (note l.thread l.taken.set l.o) l.taken.passed);
  rest : drop (l.at + length l.taken.passed) l.out ≡ drop (l.at + length l.taken.passed) l.initial.out;
  left : l.left ≡ drop l.i l.taken.passed;
}
