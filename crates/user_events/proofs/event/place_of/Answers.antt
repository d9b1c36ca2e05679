use Rattle.user_events.proofs.Words.{◌∙◌, rules, tests, string_bytes, bytes_eq, YieldsList-from_slice, position_from_yields_List, EventView}
use Rattle.user_events.proofs.Words.{event_view}
use Rattle.user_events.proofs.Putting.{position-map}
use Rattle.user_events.proofs.event.place_of.Goals as goal

pub returns : goal.returns
returns c =
    position_from_yields_List (λ x. bytes_eq c.args.name.now (string_bytes x.name)) _ _ _ c.position.ensures.ran (YieldsList-from_slice c.args.events.now cc) (λ x b q k. search (rules, tests))
    ∙ position-map event_view (λ (e : EventView). bytes_eq c.args.name.now e.name) c.args.events.now
