use Rattle.thread_slots.proofs.Words.{◌≡◌, FitsSigned, List, ℕ, rules, ◌+◌, ◌++◌, ◌∷◌, [], ap, sym, ◌∙◌, arith, w64, drop, take, length}
use Rattle.thread_slots.proofs.Words.{length-append, to_z-of_z, event_value, number_in, ◌-◌, drop-drop, length-drop, take_all, places_of}
use Rattle.thread_slots.proofs.Words.{places_of_event, numbers_at}
use Rattle.thread_slots.proofs.Lists.{drop_at}
use Rattle.thread_slots.proofs.Reading.{next_inside, next_rest, next_value}
use Rattle.thread_slots.proofs.Searching.{map_more}
use Rattle.thread_slots.proofs.values.values_of.Goals as goal
use Rattle.thread_slots.proofs.values.values_of.Goals.{After-at}

-- the places that are left begin with those of the event
left : (c : After-at) → drop c.loop-i.at c.args.places.now
    ≡ places_of_event c.args.book.now c.args.set.now.natives c.at.result ++ places_of c.args.book.now c.args.set.now.natives (drop (c.loop-i.i + 1) c.events-events.result.now)
left c = c.loop-i.invariant.rest ∙ ap (places_of c.args.book.now c.args.set.now.natives) (drop_at c.events-events.result.now c.loop-i.i c.at.result c.at.ensures.item)

given : (c : After-at) → take (length c.args.places.now - c.loop-i.at) (drop c.loop-i.at c.args.places.now) ≡ drop c.loop-i.at c.args.places.now
given c = take_all _ (drop c.loop-i.at c.args.places.now) (omega (arith, length-drop c.loop-i.at c.args.places.now))

pub value_of_event-told-requires-clause-there : goal.value_of_event-told-requires-clause-there
value_of_event-told-requires-clause-there c =
    let w = goal.at.value_of_event-told-requires-clause-there c in
    next_inside c.args.book.now c.args.set.now.natives c.at.result _ _ (given w.After-at ∙ left w.After-at)

pub overflow_add-at : goal.overflow_add-at
overflow_add-at c =
    let w = goal.at.overflow_add-at c in
    let few = next_inside c.args.book.now c.args.set.now.natives c.at.result _ _ (left w.After-at) in
    omega (arith, few, c.value_of_event-told.ensures.natives, length-drop c.loop-i.at c.args.places.now)

pub loop-i-preserved : goal.loop-i-preserved
loop-i-preserved c =
    let w = goal.at.loop-i-preserved c in
    let book = c.args.book.now in
    let natives = c.args.set.now.natives in
    let numbers = numbers_at c.args.numbers in
    let v = c.value_of_event-told.result.value in
    let e = c.at.result in
    let fits : FitsSigned w64 v = search rules in
    let is = left w.After-at in
    let few = next_inside book natives e _ _ is in
    let value = c.value_of_event-told.ensures.value ∙ next_value book natives numbers e _ _ (given w.After-at ∙ is) in
    rw (c.push.ensures.pushed, to_z-of_z w64 v fits) record {
      so_far = omega (arith, length-append c.loop-i.into (v ∷ []), c.loop-i.invariant.so_far);
      inside = omega (arith, few, c.value_of_event-told.ensures.natives, length-drop c.loop-i.at c.args.places.now);
      rest = sym (drop-drop c.value_of_event-told.result.natives c.loop-i.at c.args.places.now) ∙ ap (λ (k : ℕ). drop k (drop c.loop-i.at c.args.places.now)) c.value_of_event-told.ensures.natives ∙ next_rest book natives e _ _ is;
      done = map_more (event_value book (number_in natives numbers)) c.events-events.result.now c.loop-i.into _ c.loop-i.i e v c.at.ensures.item value c.loop-i.invariant.done;
    }
