use Rattle.event_sets.proofs.Words.{◌∙◌, natives_same}
use Rattle.event_sets.proofs.sameness.is_same.Goals as goal

pub returns : goal.returns
returns c = c.eq.ensures ∙ natives_same c.args.m.now c.args.n.now
