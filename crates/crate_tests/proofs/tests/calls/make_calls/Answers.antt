use Rattle.std.proofs.Common.{◌∙◌, refl}
use Rattle.call_type.specs.declared.call.Call.TheVariants.{Register}
use Rattle.crate_tests.proofs.tests.calls.make_calls.Goals as goal

pub loop-c-init : goal.loop-c-init
loop-c-init g c = record { ready = c.requires.ready; shape = refl }

pub loop-c-preserved : goal.loop-c-preserved
loop-c-preserved g c = record { ready = c.in_ok-reply.ensures.ready; shape = c.in_ok-reply.ensures.shape ∙ c.loop-c.invariant.shape }

pub call-requires-clause-good : goal.call-requires-clause-good
call-requires-clause-good g c = rw c.loop-c.invariant.shape (c.requires.good c.loop-c.c-index Register c.loop-c-test.true)
