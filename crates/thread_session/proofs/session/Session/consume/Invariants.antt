use Rattle.std.proofs.Common.{◌-◌, ◌≡◌, ◌≤◌, ◌*◌, ◌+◌, length}
use Rattle.session_model.specs.declared.reply.Ended.TheVariants as ended
use Rattle.stream_reader.specs.declared.limits.TheConstants.{READER_BYTES}
use Rattle.thread_session.proofs.Runs.{Running}
use Rattle.thread_session.proofs.session.Session.consume.Given as goal

abbrev pub invariant-loop-consumed : goal.invariant-loop-consumed
invariant-loop-consumed g l = record {
  most : l.consumed ≤ l.n;
  few : l.notes ≤ 32 * l.consumed;
  going : l.ended ≡ ended.Going;
  own : l.thread ≡ l.fn.self.core.thread;
  running : Running l.book l.fn.self l.self-inside.core l.self-inside.reader ((goal.Handler-dyn g l.initial.h.now).notes l.initial.h.now.1) ((goal.Handler-dyn g l.h.now).notes l.h.now.1) l.consumed l.notes;
}

-- a line that is passed over leaves fewer bytes
abbrev pub decreases-loop-consumed : goal.decreases-loop-consumed
decreases-loop-consumed g l = (l.n - l.consumed) * (READER_BYTES + 1) + length l.self-inside.reader.held
