-- the natives of the events that are left are some of those of all
use Rattle.event_sets.proofs.Words.{arith, nat_tests, ◌≡◌, List, ap, sym, subst, ◌∙◌, Native, Assignable, masks_of, natives_of, set_natives, IsSound}
use Rattle.event_sets.proofs.Words.{SetView}
use Rattle.std.specs.Prelude.{remove}
use Rattle.event_sets.proofs.Removed.{left_assignable, left_few, left_in_range, removed, removed_sound}
use Rattle.event_sets.proofs.event_set.EventSet.remove.Goals as goal
use Rattle.event_sets.proofs.event_set.EventSet.remove.Goals.{In-Some, After-natives_of_all-natives}

-- the set as it was
abbrev was : In-Some → SetView
was c = let s = c.self.inside in record { rest = record { events = s.events; thresholds = s.thresholds; component = s.component; domain = s.domain; slice = s.slice }; natives = s.natives; counters = s.counters }

own : (c : In-Some) → (was c).natives ≡ set_natives c.args.book.now (was c).rest
own c = subst (λ (v : SetView). v.natives ≡ set_natives c.args.book.now v.rest) (sym c.self.view_is) c.requires.natives

after : (c : After-natives_of_all-natives) → c.natives_of_all-natives.result ≡ natives_of c.args.book.now (remove c.self.inside.events c.in-Some.place)
after c = c.natives_of_all-natives.ensures ∙ ap (natives_of c.args.book.now) c.without-events.ensures

pub natives_of_all-natives-requires : goal.natives_of_all-natives-requires
natives_of_all-natives-requires c = grind (arith, nat_tests, left_few, own)

pub matched-self-inside-requires-clause-in_range : goal.matched-self-inside-requires-clause-in_range
matched-self-inside-requires-clause-in_range c = grind (arith, nat_tests, after, left_in_range, own)

pub matched-self-inside-requires-clause-assignable : goal.matched-self-inside-requires-clause-assignable
matched-self-inside-requires-clause-assignable c unshared =
    let at = goal.at.matched-self-inside-requires-clause-assignable c in
    subst (λ (ns : List Native). Assignable (masks_of ns)) (sym (after at.After-natives_of_all-natives))
    (left_assignable c.args.book.now c.in-Some.place (was at.In-Some) (own at.In-Some) c.self.invariant.0 unshared)

pub invariant_of-self : goal.invariant_of-self
invariant_of-self c =
    let at = goal.at.invariant_of-self c in
    let set = was at.In-Some in
    let natives = after at.After-natives_of_all-natives in
    let events = c.without-events.ensures in
    let thresholds = c.without-self-inside.ensures in
    let sound = removed_sound c.args.book.now c.in-Some.place set (own at.In-Some) c.self.invariant.0 in
    let is : removed c.in-Some.place (natives_of c.args.book.now (remove set.rest.events c.in-Some.place)) set ≡ record (set) { rest = record (set.rest) { events = c.without-events.result; thresholds = c.without-self-inside.result }; natives = c.natives_of_all-natives.result } =
    λ i. record (set) { rest = record (set.rest) { events = sym events i; thresholds = sym thresholds i }; natives = sym natives i } in
    (subst IsSound is sound, record { counters = c.matched-self-inside.ensures.counters; natives = c.matched-self-inside.ensures.natives })
