use Rattle.thread_core.proofs.Answering.{arith, [], forgotten}
use Rattle.thread_core.proofs.Opening.{opening_agrees, opening_stands}
use Rattle.papi_base.specs.Streams.{Dry}
use Rattle.thread_core.proofs.thread.Core.new.Goals as goal

pub invariant_of-result : goal.invariant_of-result
invariant_of-result c = (
  record {
    book = [];
    agrees = rw (c.in_ok-slots.ensures, c.in_ok-units.ensures.units)
        (opening_agrees [] c.args.thread c.args.shape [] Dry c.in_ok-units.ensures.shape (record { each = λ k d below. absurd (omega arith) }));
  },
  forgotten _ _ c.new.ensures,
)

pub returns-clause-stands : goal.returns-clause-stands
returns-clause-stands c book rest mark = rw (c.in_ok-slots.ensures, c.in_ok-units.ensures.units) (opening_stands book c.args.thread c.args.shape rest mark c.in_ok-units.ensures.shape)

pub returns-clause-agrees : goal.returns-clause-agrees
returns-clause-agrees c book fits = rw (c.in_ok-slots.ensures, c.in_ok-units.ensures.units) (opening_agrees book c.args.thread c.args.shape [] Dry c.in_ok-units.ensures.shape fits)
