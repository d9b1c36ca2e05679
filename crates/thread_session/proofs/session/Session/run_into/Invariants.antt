use Rattle.std.proofs.Common.{◌-◌, ◌≡◌, ◌≤◌, [], drop, length, take, false}
use Rattle.session_model.specs.declared.reply.Ended.TheVariants as ended
use Rattle.thread_session.proofs.Runs.{Running}
use Rattle.thread_session.proofs.session.Session.run_into.Given as goal

abbrev pub invariant-loop-consumed : goal.invariant-loop-consumed
invariant-loop-consumed g l = record {
  most : l.consumed ≤ l.n;
  going : l.ended ≡ ended.Going;
  open_yet : l.full ≡ false;
  own : l.thread ≡ l.fn.self.core.thread;
  size : length l.out ≡ length l.initial.out;
  room : l.notes ≤ length l.out;
  rest : drop l.notes l.out ≡ drop l.notes l.initial.out;
  running : Running l.book l.fn.self l.self-inside.core l.self-inside.reader [] (take l.notes l.out) l.consumed l.notes;
}

abbrev pub decreases-loop-consumed : goal.decreases-loop-consumed
decreases-loop-consumed g l = l.n - l.consumed
