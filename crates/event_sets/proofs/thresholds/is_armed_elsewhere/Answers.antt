use Rattle.event_sets.proofs.Words.{◌≡◌, ◌+◌, ◌||◌, drop, arith, nat_tests, number_at, armed_elsewhere}
use Rattle.event_sets.proofs.Arming.{armed_at}
use Rattle.event_sets.proofs.thresholds.is_armed_elsewhere.Goals as goal
use Rattle.event_sets.proofs.thresholds.is_armed_elsewhere.Goals.{After-is_armed_on}

-- the event at this place is armed there, or one of the others is
at_place : (c : After-is_armed_on) → (let s = c.args.set.now.rest in let i = c.loop-i.i in
    armed_elsewhere c.args.book.now c.args.e.now c.args.n.now (drop i s.events) (drop i s.thresholds)
    ≡ (c.is_armed_on.result || armed_elsewhere c.args.book.now c.args.e.now c.args.n.now (drop (i + 1) s.events) (drop (i + 1) s.thresholds)))
at_place c = grind (arith, nat_tests, number_at, armed_at)

pub returns-then-is_armed_on : goal.returns-then-is_armed_on
returns-then-is_armed_on c = grind (arith, nat_tests, at_place)

pub loop-i-preserved : goal.loop-i-preserved
loop-i-preserved c = grind (arith, nat_tests, at_place)
