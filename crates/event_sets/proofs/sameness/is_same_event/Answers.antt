use Rattle.event_sets.proofs.Words.{◌∙◌, events_same}
use Rattle.event_sets.proofs.sameness.is_same_event.Goals as goal

pub returns : goal.returns
returns c = c.eq.ensures ∙ events_same c.args.e.now c.args.f.now
