use Rattle.user_events.proofs.Words.{◌∙◌, List, map, sym, ap, position, Text, event_view, UserEvent}
use Rattle.user_events.proofs.Putting.{is_named, put-found, put-new}
use Rattle.user_events.proofs.event.put_event.Goals as goal

pub returns-in-Some : goal.returns-in-Some
returns-in-Some c =
    let at = c.in-Some.ensures ∙ ap (λ (xs : List UserEvent). position (is_named c.args.name.now) (map event_view xs)) c.as_slice.ensures.value in
    put-found c.args.events.now.items c.args.name.now c.args.entry c.in-Some.place c.index_mut.result.now (sym at) c.index_mut.ensures.value

pub returns-in_ok-push-in-None : goal.returns-in_ok-push-in-None
returns-in_ok-push-in-None c =
    let none = c.in-None.ensures ∙ ap (λ (xs : List UserEvent). position (is_named c.args.name.now) (map event_view xs)) c.as_slice.ensures.value in
    rw c.in_ok-push-in-None.ensures.items
    (put-new c.args.events.now.items c.args.name.now c.args.entry _ (sym none) (ap (λ (n : Text). record { name = n; entry = c.args.entry }) c.in_ok-name-in-None.ensures.ok))
