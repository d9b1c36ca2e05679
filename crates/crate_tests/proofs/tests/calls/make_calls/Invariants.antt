use Rattle.std.proofs.Common.{◌≡◌}
use Rattle.thread_session.specs.Stands.{IsReady}
use Rattle.crate_tests.proofs.tests.calls.make_calls.Given as goal

abbrev pub invariant-loop-c : goal.invariant-loop-c
invariant-loop-c g l = record {
  ready : IsReady l.book l.session;
  shape : l.session.core.shape ≡ l.fn.session.core.shape;
}
