use Rattle.thread_slots.proofs.Words.{◌+◌, ◌++◌, ap, sym, ◌∙◌, arith, drop, append_assoc, places_of, places_of_event}
use Rattle.thread_slots.proofs.Lists.{drop_at}
use Rattle.thread_slots.proofs.event_places.EventPlaces.of.Goals as goal

pub loop-i-preserved : goal.loop-i-preserved
loop-i-preserved c =
    let book = c.args.book.now in
    let natives = c.natives-natives.result.now in
    let events = c.events-events.result.now in
    let i = c.loop-i.i in
    let e = c.at.result in
    record {
      few = omega (arith, c.push_event.ensures.few, c.loop-i.invariant.few);
      done = ap (λ ps. ps ++ places_of book natives (drop (i + 1) events)) c.push_event.ensures.places
          ∙ append_assoc c.loop-i.places (places_of_event book natives e) (places_of book natives (drop (i + 1) events))
          ∙ sym (ap (λ es. c.loop-i.places ++ places_of book natives es) (drop_at events i e c.at.ensures.item))
          ∙ c.loop-i.invariant.done;
    }
