use Rattle.thread_slots.proofs.Words.{◌≡◌, ◌++◌, length, take, drop, sums}
use Rattle.thread_slots.proofs.accumulating.add.Given as goal

abbrev pub invariant-loop-i : goal.invariant-loop-i
invariant-loop-i l = record {
  long : length l.values ≡ length l.fn.values;
  room : length l.more ≡ length l.fn.more;
  done : take l.i l.values ++ sums (drop l.i l.values) (drop l.i l.more) ≡ sums l.fn.values l.fn.more;
  same : take l.i l.more ≡ take l.i l.values;
  rest : drop l.i l.more ≡ drop l.i l.fn.more;
}
