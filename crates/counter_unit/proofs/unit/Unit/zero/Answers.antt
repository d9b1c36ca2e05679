use Rattle.counter_unit.proofs.Words.{◌≡◌, ◌<◌, ap, ◌∙◌, arith, length, length-set, take, get_or, set, length-take-le, option_map, UnitView, at_place, begun_again}
use Rattle.counter_unit.proofs.Kept.{AreKept-set, again_kept, again_now, places_now-set}
use Rattle.counter_unit.specs.Units.{places_now}
use Rattle.counter_unit.proofs.unit.Unit.zero.Goals as goal

pub invariant_of-self : goal.invariant_of-self
invariant_of-self c =
    let u = c.self.inside in
    let h = c.self.invariant in
    let k = c.args.c in
    let rs = take (length u.shape) u.registers in
    let shape : u.shape ≡ c.args.self.now.widths = ap (λ (v : UnitView). v.widths) c.self.view_is in
    let exists : k < length u.shape = rw shape c.requires.exists in
    let again = again_kept (get_or u.shape k 0) (at_place rs k) (get_or u.values k 0) (get_or u.bases k 0) (get_or u.first_values k 0) (get_or u.first_bases k 0) (h.are_widths.low k exists) (h.kept k exists) in
    record {
      few = h.few;
      are_widths = h.are_widths;
      long = h.long;
      long_values = length-set u.values k (get_or u.first_values k 0) ∙ h.long_values;
      long_bases = length-set u.bases k (get_or u.first_bases k 0) ∙ h.long_bases;
      long_first_values = h.long_first_values;
      long_first_bases = h.long_first_bases;
      kept = AreKept-set u.shape rs u.values u.bases u.first_values u.first_bases k (get_or u.first_values k 0) (get_or u.first_bases k 0) (omega (arith, h.few, h.long_values)) (omega (arith, h.few, h.long_bases)) again h.kept;
      are_rooms = h.are_rooms;
      selects = h.selects;
    }

pub returns : goal.returns
returns c =
    let u = c.self.inside in
    let h = c.self.invariant in
    let k = c.args.c in
    let rs = take (length u.shape) u.registers in
    let shape : u.shape ≡ c.args.self.now.widths = ap (λ (v : UnitView). v.widths) c.self.view_is in
    let exists : k < length u.shape = rw shape c.requires.exists in
    let long : length rs ≡ length u.shape = length-take-le (length u.shape) u.registers (omega (arith, h.few, h.long)) in
    ap (λ rs. record { widths = u.shape; registers = rs })
    (places_now-set rs u.values u.bases k (get_or u.first_values k 0) (get_or u.first_bases k 0)
    ∙ ap (set (places_now rs u.values u.bases) k) (again_now u.shape rs u.values u.bases u.first_values u.first_bases k exists (omega (arith, h.few, h.long_values)) (omega (arith, h.few, h.long_bases)) h.kept))
    ∙ ap (λ (v : UnitView). record v { registers = set v.registers k (option_map (begun_again (get_or v.widths k 0)) (at_place v.registers k)) }) c.self.view_is
