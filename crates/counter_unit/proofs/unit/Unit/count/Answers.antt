use Rattle.counter_unit.proofs.Words.{◌≡◌, ◌<◌, ap, ◌∙◌, arith, length, take, length-take-le, UnitView, count_on}
use Rattle.counter_unit.proofs.Kept.{count_now}
use Rattle.counter_unit.proofs.unit.Unit.count.Goals as goal

pub returns : goal.returns
returns c =
    let u = c.self.inside in
    let h = c.self.invariant in
    let rs = take (length u.shape) u.registers in
    let shape : u.shape ≡ c.args.self.now.widths = ap (λ (v : UnitView). v.widths) c.self.view_is in
    let exists : c.args.c < length u.shape = rw shape c.requires.exists in
    let long : length rs ≡ length u.shape = length-take-le (length u.shape) u.registers (omega (arith, h.few, h.long)) in
    count_now u.shape rs u.values u.bases u.first_values u.first_bases c.args.c exists (omega (arith, h.few, h.long_values)) (omega (arith, h.few, h.long_bases)) h.kept
    ∙ ap (λ (v : UnitView). count_on v c.args.c) c.self.view_is
