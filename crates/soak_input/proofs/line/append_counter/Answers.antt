use Rattle.soak_input.proofs.Drawing.{six_in_pairs}
use Rattle.soak_input.proofs.line.append_counter.Goals as goal

pub returns-clause-text : goal.returns-clause-text
returns-clause-text c = six_in_pairs _ _ _ _ c.args.counter c.append_byte.ensures.text c.append_byte-2.ensures.text c.append_byte-3.ensures.text
