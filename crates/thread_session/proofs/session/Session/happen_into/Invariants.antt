use Rattle.thread_session.proofs.Words.{◌≡◌, ◌<◌, ◌≤◌, ◌+◌, ◌-◌, ◌/◌, ◌%◌, [], drop, length, take, true, MOST_OCCURRENCES, occurrences, time_after}
use Rattle.thread_session.proofs.Runs.{HasTaken}
use Rattle.thread_session.proofs.session.Session.happen_into.Given as goal

abbrev pub invariant-loop-went : goal.invariant-loop-went
invariant-loop-went g l = record {
  own : l.thread ≡ l.fn.self.core.thread;
  over : l.self-inside.reader.over ≡ true;
  reader : l.self-inside.reader ≡ l.fn.self.reader;
  few : l.self-inside.core.taken ≤ MOST_OCCURRENCES;
  most : l.went ≤ l.what.amount;
  even : l.went < l.what.amount → l.went % 255 ≡ 0;
  time : l.went < l.what.amount → time_after l.self-inside.core.last ≡ time_after l.fn.self.core.last + l.went / 255;
  size : length l.out ≡ length l.initial.out;
  room : l.notes ≤ length l.out;
  rest : drop l.notes l.out ≡ drop l.notes l.initial.out;
  taken : HasTaken l.book l.fn.self.core l.self-inside.core (occurrences l.what l.went (time_after l.fn.self.core.last)) [] (take l.notes l.out);
}

abbrev pub decreases-loop-went : goal.decreases-loop-went
decreases-loop-went g l = l.what.amount - l.went
