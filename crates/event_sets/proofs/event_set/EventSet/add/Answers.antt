-- what the code finds is what the definition of the refusals says
use Rattle.event_sets.proofs.Words.{rules, nat_tests, ◌≡◌, false, ℕ, ◌<◌, [], length, arith, refl, sym, ap, ap₂, subst, ◌∙◌, slice_get, Option, Some}
use Rattle.event_sets.proofs.Words.{None, IsNone, if◌then◌else◌, is_some, Assignable, masks_of, Fits, natives_of_event, joined_by, clash_of, is_full}
use Rattle.event_sets.proofs.Words.{IsMatched, IsSound, SetView}
use Rattle.event_sets.proofs.JoinedNatives.{joined_grows}
use Rattle.event_sets.proofs.Agreeing.{numbered}
use Rattle.event_sets.proofs.Adding.{Ready, added_sound, added_view, pushed, all_in_range, begins, begun_allowed, begun_counters, full_of_natives, not_full, refused_clash, refused_full, taken}
use Rattle.event_sets.proofs.event_set.EventSet.add.Goals as goal
use Rattle.event_sets.proofs.event_set.EventSet.add.Goals.{After-len, After-begun-matching, In-Some, In_default-clash}

none_left : {X : Type 0} (o : Option X) → ((x : X) → o ≡ Some x → ⊥) → o ≡ None
none_left = grind (arith, nat_tests)

pub counters_of-counters-requires : goal.counters_of-counters-requires
counters_of-counters-requires c =
    let first = ap (λ ns. slice_get ns 0) (sym c.natives_of-given.ensures) ∙ c.at-comp.ensures.item in
    (numbered (Fits c.args.shape.now) (natives_of_event c.args.book.now c.args.e.now) c.requires.fits 0 c.at-comp.result first).has_component

-- the event is of the component and not in the set
ready : (c : After-len) → Ready c.args.book.now c.args.shape.now c.args.e.now c.args.self.now c.at-comp.result
ready c = grind (arith, nat_tests)

-- the natives with those of the event
joins : (c : In-Some) → c.in-Some.natives ≡ joined_by c.args.self.now.natives (natives_of_event c.args.book.now c.args.e.now)
joins c = c.in-Some.ensures.some ∙ ap₂ joined_by (ap (λ (v : SetView). v.natives) c.self.view_is) c.natives_of-given.ensures

few_events : (c : In-Some) → length c.args.self.now.rest.events < 32
few_events c = omega (arith, c.len.ensures.length, c.if-len.false, ap (λ (v : SetView). length v.rest.events) c.self.view_is)

room : (c : In-Some) → is_full c.args.book.now c.args.e.now c.args.self.now.rest ≡ false
room c = not_full _ _ _ _ _ (ready (goal.at.In-Some c).After-len) _ (joins c) (few_events c) c.in-Some.ensures.few

-- the matching to which the new natives are added
begun_is : (c : After-begun-matching) → c.begun-matching.result
    ≡ (if is_some c.args.self.now.rest.component then c.self.inside.matching else record { counters = c.counters_of-counters.result; allowed = [] })
begun_is c = grind (arith, nat_tests)

matched : (c : After-begun-matching) → IsMatched c.args.self.now c.self.inside.matching
matched c = subst (λ (v : SetView). IsMatched v c.self.inside.matching) c.self.view_is c.self.invariant.1

-- it has the counters of the component
size : (c : After-begun-matching) → c.begun-matching.result.counters ≡ c.counters_of-counters.result
size c = grind (arith, nat_tests, begun_is, begun_counters, ready, joins, matched)

-- no native event clashes
free : (c : In_default-clash) → c.clash.result ≡ None
free c = none_left c.clash.result c.in_default-clash.not-Some

-- as many natives are there, at this slice
clash_at : (c : In-Some) (k : ℕ) → k ≡ length c.self.inside.natives
    → clash_of c.args.self.now.rest.slice (length c.args.self.now.natives) c.in-Some.natives ≡ clash_of c.self.inside.slice k c.in-Some.natives
clash_at c k e = ap₂ (λ o n. clash_of o n c.in-Some.natives) (ap (λ (v : SetView). v.rest.slice) (sym c.self.view_is)) (ap (λ (v : SetView). length v.natives) (sym c.self.view_is) ∙ sym e)

pub returns-in_default-clause-refused : goal.returns-in_default-clause-refused
returns-in_default-clause-refused c = grind (arith, nat_tests, ready, refused_full, full_of_natives)

pub clash-requires-clause-from : goal.clash-requires-clause-from
clash-requires-clause-from c = grind (arith, nat_tests, joined_grows)

pub clash-requires-clause-in_range : goal.clash-requires-clause-in_range
clash-requires-clause-in_range c = grind (arith, nat_tests, size, all_in_range, ready, joins)

pub clash-requires-clause-before : goal.clash-requires-clause-before
clash-requires-clause-before c none = grind (arith, nat_tests, ready, joins, begun_is, begun_allowed, matched, begins)

pub returns-in-Some-clash-clause-refused : goal.returns-in-Some-clash-clause-refused
returns-in-Some-clash-clause-refused c = search (rules, refused_clash, ready, joins, room, clash_at)

pub returns-clause-taken : goal.returns-clause-taken
returns-clause-taken c = grind (arith, nat_tests, taken, ready, joins, room, clash_at, free)

pub returns-clause-added : goal.returns-clause-added
returns-clause-added c = grind (arith, nat_tests, pushed, added_view, ready, joins)

pub invariant_of-self : goal.invariant_of-self
invariant_of-self c =
    let at = goal.at.invariant_of-self c in
    let w = at.In-Some in
    let none = free at.In_default-clash in
    let none_told : IsNone c.clash.result = subst IsNone (sym none) refl in
    let slice = ap (λ (v : SetView). v.rest.slice) c.self.view_is in
    let assignable : c.args.self.now.rest.slice ≡ None → Assignable (masks_of c.in-Some.natives) = λ unshared. c.clash.ensures.assignable (slice ∙ unshared) none_told in
    rw (c.push.ensures.pushed, c.push-2.ensures.pushed) (
      subst IsSound (ap (λ (v : SetView). pushed v c.args.e.now c.at-comp.result.comp c.in-Some.natives c.counters_of-counters.result) (sym c.self.view_is))
          (added_sound _ _ _ _ _ (ready at.After-len) _ (joins w) _ c.counters_of-counters.ensures.counted (few_events w) c.in-Some.ensures.few c.counters_of-counters.ensures.few assignable
          (clash_at w _ c.len-2.ensures.length ∙ (sym c.clash.ensures.clash ∙ none))),
      record {
        counters = c.clash.ensures.counters none_told ∙ size at.After-begun-matching;
        natives = λ unshared. c.clash.ensures.given unshared none_told;
      },
    )
