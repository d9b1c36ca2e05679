use Rattle.thread_core.proofs.Answering.{CoreView, arith, time_after, ◌≤◌, ◌≡◌, subst, sym, ap, CoreStands, counted_all, agrees_now, runner_below, counted_known, seen}
use Rattle.thread_core.proofs.Taking.{countable, counted_is, taken_agrees, taken_stands, taken_notes}
use Rattle.thread_core.proofs.thread.Core.take.Goals as goal
use Rattle.thread_core.proofs.thread.Core.take.Goals.{After-count_all-taken}

pub count_all-taken-requires-clause-countable : goal.count_all-taken-requires-clause-countable
count_all-taken-requires-clause-countable c k e = countable c.self.invariant.0.book _ c.args.o.now.comp k c.self.invariant.0.agrees e

pub on-runner-requires-clause-within : goal.on-runner-requires-clause-within
on-runner-requires-clause-within c k e = omega (arith, runner_below c.self.invariant.0.book _ _ k c.self.invariant.0.agrees e)

-- the core as it was
abbrev core : After-count_all-taken → CoreView
core c = seen c.self.inside

-- what was computed is what is counted
counts : (c : After-count_all-taken)
    → (let t = c.count_all-taken in record { units = t.new.units.items; slots = t.new.slots.items; set = t.result.set; passed = t.result.passed })
    ≡ counted_all (core c).last c.args.o.now (core c).units (core c).slots
counts c =
    let t = c.count_all-taken.ensures in
    counted_is _ (core c).last c.args.o.now (core c).units _ (core c).slots _ _ _ c.as_ref-before.ensures.value t.units t.slots t.set t.passed

rises : (c : After-count_all-taken) → time_after (core c).last ≤ c.args.o.now.stamp
rises c = subst (λ (v : CoreView). time_after v.last ≤ c.args.o.now.stamp) (sym c.self.view_is) c.requires.rises

pub invariant_of-self : goal.invariant_of-self
invariant_of-self c =
    let w = (goal.at.invariant_of-self c).After-count_all-taken in
    let few = ap (λ (v : CoreView). v.taken) c.self.view_is in
    let backed = c.self.invariant.0 in
    let agrees = taken_agrees backed.book (core w) c.args.o.now _ (counts w) (omega arith) (rises w) c.requires.stamp (omega arith) backed.agrees in (
      record { book = backed.book; agrees = agrees },
      counted_known backed.book (core w) c.args.o.now c.on-runner.new.self _ (omega arith) (rises w) (omega arith) backed.agrees (counts w)
          c.on-runner.ensures.known,
    )

pub returns-clause-stands : goal.returns-clause-stands
returns-clause-stands c book a stands =
    let w = (goal.at.returns-clause-stands c).After-count_all-taken in
    let few = ap (λ (v : CoreView). v.taken) c.self.view_is in
    taken_stands book (core w) a c.args.o.now _ (counts w) (omega arith) (rises w) (omega arith)
    (subst (λ (v : CoreView). CoreStands book v a) (sym c.self.view_is) stands)

pub returns-clause-agrees : goal.returns-clause-agrees
returns-clause-agrees c book agrees =
    let w = (goal.at.returns-clause-agrees c).After-count_all-taken in
    let few = ap (λ (v : CoreView). v.taken) c.self.view_is in
    taken_agrees book (core w) c.args.o.now _ (counts w) (omega arith) (rises w) c.requires.stamp (omega arith) (agrees_now c.self.view_is agrees)

pub returns-clause-notes : goal.returns-clause-notes
returns-clause-notes c book a stands =
    let w = (goal.at.returns-clause-notes c).After-count_all-taken in
    taken_notes book (core w) a c.args.o.now _ (counts w) (omega arith) (subst (λ (v : CoreView). CoreStands book v a) (sym c.self.view_is) stands)
