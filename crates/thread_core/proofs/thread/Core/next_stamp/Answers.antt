use Rattle.thread_core.proofs.Answering.{CoreView, time_after, ◌≤◌, subst}
use Rattle.thread_core.proofs.thread.Core.next_stamp.Goals as goal

pub time-now-requires : goal.time-now-requires
time-now-requires c = subst (λ (v : CoreView). time_after v.last ≤ 4294967295) c.self.view_is c.self.invariant.0.agrees.in_time
