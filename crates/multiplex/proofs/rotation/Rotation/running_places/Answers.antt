-- a later time in the slice that is kept
use Rattle.multiplex.proofs.Words.{arith, subst, IsSpanOf, RotationView, group_at}
use Rattle.multiplex.proofs.Slices.{in_slice}
use Rattle.multiplex.proofs.rotation.Rotation.running_places.Goals as goal

pub returns-then-time-first-clause-places : goal.returns-then-time-first-clause-places
returns-then-time-first-clause-places c =
    let r = c.self.inside in
    let in_it = in_slice r.numbers r.slice r.groups r.kept.first r.kept.places.first r.kept.places.end c.args.time c.self.invariant.kept c.if-first-time.true (omega arith) in
    subst (λ (v : RotationView). IsSpanOf v.numbers (group_at v.turns c.args.time) r.kept.places.first r.kept.places.end) c.self.view_is in_it
