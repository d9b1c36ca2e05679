use Rattle.thread_slots.proofs.Words.{◌≡◌, FitsSigned, Some, rules, ◌+◌, ◌++◌, ◌∷◌, [], List, ℕ, ap, sym, ◌∙◌, arith, w64, drop, take, map, length}
use Rattle.thread_slots.proofs.Words.{slice_get, to_z-of_z, event_value, number_in, ◌-◌, ◌<◌, ℤ, drop-drop, drop-set-lt, length-drop, length-set}
use Rattle.thread_slots.proofs.Words.{take_all, take_more_set, take_at, places_of, places_of_event, numbers_at}
use Rattle.thread_slots.proofs.Lists.{drop_at, get-map_some}
use Rattle.thread_slots.proofs.Reading.{next_inside, next_rest, next_value}
use Rattle.thread_slots.proofs.values.write_values.Goals as goal
use Rattle.thread_slots.proofs.values.write_values.Goals.{After-at}

-- the places that are left begin with those of the event
left : (c : After-at) → drop c.loop-i.at c.args.places.now
    ≡ places_of_event c.args.book.now c.args.set.now.natives c.at.result ++ places_of c.args.book.now c.args.set.now.natives (drop (c.loop-i.i + 1) c.events-events.result.now)
left c = c.loop-i.invariant.rest ∙ ap (places_of c.args.book.now c.args.set.now.natives) (drop_at c.events-events.result.now c.loop-i.i c.at.result c.at.ensures.item)

given : (c : After-at) → take (length c.args.places.now - c.loop-i.at) (drop c.loop-i.at c.args.places.now) ≡ drop c.loop-i.at c.args.places.now
given c = take_all _ (drop c.loop-i.at c.args.places.now) (omega (arith, length-drop c.loop-i.at c.args.places.now))

pub value_of_event-own-requires-clause-there : goal.value_of_event-own-requires-clause-there
value_of_event-own-requires-clause-there c =
    let w = goal.at.value_of_event-own-requires-clause-there c in
    next_inside c.args.book.now c.args.set.now.natives c.at.result _ _ (given w.After-at ∙ left w.After-at)

pub overflow_add-at : goal.overflow_add-at
overflow_add-at c =
    let w = goal.at.overflow_add-at c in
    let few = next_inside c.args.book.now c.args.set.now.natives c.at.result _ _ (left w.After-at) in
    omega (arith, few, c.value_of_event-own.ensures.natives, length-drop c.loop-i.at c.args.places.now)

pub loop-i-preserved : goal.loop-i-preserved
loop-i-preserved c =
    let w = goal.at.loop-i-preserved c in
    let book = c.args.book.now in
    let natives = c.args.set.now.natives in
    let numbers = numbers_at c.args.numbers in
    let events = c.events-events.result.now in
    let out = c.loop-i.out in
    let i = c.loop-i.i in
    let v = c.value_of_event-own.result.value in
    let e = c.at.result in
    let f = event_value book (number_in natives numbers) in
    let fits : FitsSigned w64 v = search rules in
    let is = left w.After-at in
    let few = next_inside book natives e _ _ is in
    let value : v ≡ f e = c.value_of_event-own.ensures.value ∙ next_value book natives numbers e _ _ (given w.After-at ∙ is) in
    let less : i < length out = omega (arith, c.loop-i-test.true, c.loop-i.invariant.long, c.min-most.ensures) in
    let here : slice_get (map f events) i ≡ Some v = get-map_some f events i e c.at.ensures.item ∙ ap Some (sym value) in
    rw (to_z-of_z w64 v fits) record {
      long = length-set out i v ∙ c.loop-i.invariant.long;
      inside = omega (arith, few, c.value_of_event-own.ensures.natives, length-drop c.loop-i.at c.args.places.now);
      rest = sym (drop-drop c.value_of_event-own.result.natives c.loop-i.at c.args.places.now) ∙ ap (λ (k : ℕ). drop k (drop c.loop-i.at c.args.places.now)) c.value_of_event-own.ensures.natives ∙ next_rest book natives e _ _ is;
      written = take_more_set out i v less ∙ ap (λ (ys : List ℤ). ys ++ v ∷ []) c.loop-i.invariant.written ∙ sym (take_at (map f events) i v here);
      after = drop-set-lt (i + 1) out i v (omega arith) ∙ sym (drop-drop 1 i out) ∙ ap (drop 1) c.loop-i.invariant.after ∙ drop-drop 1 i c.args.out.now;
    }
