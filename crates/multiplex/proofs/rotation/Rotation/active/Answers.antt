-- the closed form counts the group's ticks
use Rattle.multiplex.proofs.Words.{◌≡◌, ◌<◌, ap, sym, ◌∙◌, RotationView, Turns, active}
use Rattle.multiplex.proofs.Ticks.{active_in_turns}
use Rattle.multiplex.proofs.rotation.Rotation.active.Goals as goal

pub returns-clause-active : goal.returns-clause-active
returns-clause-active c =
    let turns : Turns = record { slice = c.self.inside.slice; count = c.self.inside.groups; start = 0 } in
    let is : turns ≡ c.args.self.now.turns = ap (λ (v : RotationView). v.turns) c.self.view_is in
    let groups : c.self.inside.groups ≡ c.args.self.now.turns.count = ap (λ (v : RotationView). v.turns.count) c.self.view_is in
    let below : c.args.group < c.self.inside.groups = rw groups c.requires.group in
    rw (c.min.ensures, c.saturating_sub-part.ensures, c.from-2.ensures, c.from-slice.ensures, c.from.ensures)
    (sym (active_in_turns turns c.args.group c.args.total c.self.invariant.some_slice below) ∙ ap (λ t. active t c.args.group c.args.total) is)
