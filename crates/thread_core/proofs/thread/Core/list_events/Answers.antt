use Rattle.thread_core.proofs.Answering.{refl, sym, ◌∙◌, ap, option_copied, absent_follows, goes_there, list_follows}
use Rattle.thread_core.proofs.thread.Core.list_events.Goals as goal

pub returns-in_default : goal.returns-in_default
returns-in_default c = absent_follows c.args.set _ c.requires (sym c.set.ensures ∙ ap option_copied c.in_default.is) refl

pub returns : goal.returns
returns c =
    let lent = sym c.set.ensures ∙ ap option_copied c.in-Some.is in
    list_follows _ _ c.args.set _ _ (goes_there c.args.set _ c.requires lent refl) lent (c.copy.ensures.same ∙ c.events.ensures.events)
