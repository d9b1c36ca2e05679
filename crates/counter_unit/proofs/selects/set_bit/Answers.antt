use Rattle.counter_unit.proofs.Words.{w32, bit_at_set_same, bit_at_set_other}
use Rattle.counter_unit.proofs.selects.set_bit.Goals as goal

pub returns-clause-here : goal.returns-clause-here
returns-clause-here c = bit_at_set_same w32 c.args.mask c.args.c c.requires

pub returns-clause-there : goal.returns-clause-there
returns-clause-there c k below apart = bit_at_set_other w32 c.args.mask c.args.c c.requires k apart
