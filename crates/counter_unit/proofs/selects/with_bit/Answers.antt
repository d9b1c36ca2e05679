use Rattle.counter_unit.proofs.Words.{ap, sym, ◌∙◌, w32, bit_at_clear_same, bit_at_clear_other, bit_at_set_same, bit_at_set_other, bit_of}
use Rattle.counter_unit.proofs.selects.with_bit.Goals as goal

pub returns-then-on-clause-here : goal.returns-then-on-clause-here
returns-then-on-clause-here c = bit_at_set_same w32 c.args.mask c.args.c c.requires ∙ sym (ap bit_of c.if-on.true)

pub returns-then-on-clause-there : goal.returns-then-on-clause-there
returns-then-on-clause-there c k below apart = bit_at_set_other w32 c.args.mask c.args.c c.requires k apart

pub returns-else-on-clause-here : goal.returns-else-on-clause-here
returns-else-on-clause-here c = bit_at_clear_same w32 c.args.mask c.args.c c.requires ∙ sym (ap bit_of c.if-on.false)

pub returns-else-on-clause-there : goal.returns-else-on-clause-there
returns-else-on-clause-there c k below apart = bit_at_clear_other w32 c.args.mask c.args.c c.requires k below apart
