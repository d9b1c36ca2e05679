use Rattle.user_events.proofs.Words.{◌∙◌, sym, ap, refl, subst, Text, table_text, ReadsBack}
use Rattle.user_events.proofs.ExtendedBack.{reads-back}
use Rattle.user_events.proofs.WrittenRows.{begun, ended, one-more}
use Rattle.user_events.proofs.writing.write_extended.Goals as goal

pub loop-event-init : goal.loop-event-init
loop-event-init c = begun c.args.x.now.presets c.events-events.result.now c.in_ok-text.text.items (c.in_ok-text.ensures.text ∙ ap table_text c.presets.ensures.presets)

pub loop-event-preserved : goal.loop-event-preserved
loop-event-preserved c =
    one-more c.args.x.now.presets c.events-events.result.now c.loop-event.event-index c.event-item.result c.loop-event.text.items _ _ c.loop-event-test.true c.event-item.is c.as_str.ensures.value
    c.in_ok-put_entry.ensures c.loop-event.invariant

pub returns-clause-text : goal.returns-clause-text
returns-clause-text c = ended c.args.x.now c.args.x.now.presets c.events-events.result.now c.loop-event.event-index _ refl c.events-events.ensures.events c.loop-event-test.false c.loop-event.invariant

pub returns-clause-back : goal.returns-clause-back
returns-clause-back c =
    subst (λ (bytes : Text). ReadsBack bytes c.args.x.now)
    (sym (ended c.args.x.now c.args.x.now.presets c.events-events.result.now c.loop-event.event-index _ refl c.events-events.ensures.events c.loop-event-test.false c.loop-event.invariant))
    (reads-back c.args.x.now c.events-events.ensures.kept)
