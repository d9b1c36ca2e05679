use Rattle.counter_unit.proofs.Words.{◌≡◌, ap, ◌∙◌, arith, length, take, get_or, length-take-le, UnitView, all_begun_again, at_place}
use Rattle.counter_unit.proofs.Kept.{again_kept, all_again}
use Rattle.counter_unit.proofs.unit.Unit.restart.Goals as goal

pub invariant_of-self : goal.invariant_of-self
invariant_of-self c =
    let u = c.self.inside in
    let h = c.self.invariant in
    record {
      few = h.few;
      are_widths = h.are_widths;
      long = h.long;
      long_values = h.long_first_values;
      long_bases = h.long_first_bases;
      long_first_values = h.long_first_values;
      long_first_bases = h.long_first_bases;
      kept = λ k below. again_kept (get_or u.shape k 0) (at_place (take (length u.shape) u.registers) k) (get_or u.values k 0) (get_or u.bases k 0) (get_or u.first_values k 0) (get_or u.first_bases k 0) (h.are_widths.low k below) (h.kept k below);
      are_rooms = h.are_rooms;
      selects = h.selects;
    }

pub returns : goal.returns
returns c =
    let u = c.self.inside in
    let h = c.self.invariant in
    let rs = take (length u.shape) u.registers in
    let long : length rs ≡ length u.shape = length-take-le (length u.shape) u.registers (omega (arith, h.few, h.long)) in
    ap (λ rs. record { widths = u.shape; registers = rs })
    (all_again u.shape rs u.values u.bases u.first_values u.first_bases long (omega (arith, h.few, h.long_values)) (omega (arith, h.few, h.long_bases)) (omega (arith, h.few, h.long_first_values)) (omega (arith, h.few, h.long_first_bases)) h.kept)
    ∙ ap (λ (v : UnitView). record v { registers = all_begun_again v.widths v.registers }) c.self.view_is
