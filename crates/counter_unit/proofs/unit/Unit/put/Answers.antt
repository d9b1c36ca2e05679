use Rattle.counter_unit.proofs.Words.{◌≡◌, ◌^◌, ◌<◌, ap, arith, length, take, get_or, set, ◌∙◌, None, take-set-lt, get_or-take, length-set}
use Rattle.counter_unit.proofs.Words.{length-take-le, UnitView}
use Rattle.counter_unit.proofs.Kept.{AreKept-put, base_of, base_of_0, base_of_nothing, begins_kept, begins_now, places_now-put}
use Rattle.counter_unit.specs.Units.{beginning_at, places_now}
use Rattle.counter_unit.proofs.unit.Unit.put.Goals as goal

pub invariant_of-self : goal.invariant_of-self
invariant_of-self c =
    let u = c.self.inside in
    let h = c.self.invariant in
    let k = c.args.c in
    let ws = u.shape in
    let rs = take (length ws) u.registers in
    let shape : ws ≡ c.args.self.now.widths = ap (λ (v : UnitView). v.widths) c.self.view_is in
    let exists : k < length ws = rw shape c.requires.exists in
    let long : length rs ≡ length ws = length-take-le (length ws) u.registers (omega (arith, h.few, h.long)) in
    let put = take-set-lt (length ws) u.registers k c.args.place exists in
    let stood = get_or-take (length ws) u.registers k None exists in
    let v = beginning_at c.args.place in
    let small : v < 2 ^ 64 = rw (← c.first_of-value.ensures) c.first_of-value.type_inv in
    let kept = begins_kept (get_or ws k 0) c.args.place (base_of v) (h.are_widths.low k exists) (rw shape c.requires.begun) (base_of_nothing v small) (base_of_0 c.args.place) in
    rw c.first_of-value.ensures record {
      few = h.few;
      are_widths = h.are_widths;
      long = length-set u.registers k c.args.place ∙ h.long;
      long_values = length-set u.values k v ∙ h.long_values;
      long_bases = length-set u.bases k (base_of v) ∙ h.long_bases;
      long_first_values = length-set u.first_values k v ∙ h.long_first_values;
      long_first_bases = length-set u.first_bases k (base_of v) ∙ h.long_first_bases;
      kept = rw put (AreKept-put ws rs u.values u.bases u.first_values u.first_bases k c.args.place v (base_of v) v (base_of v) (omega arith) (omega (arith, h.few, h.long_values)) (omega (arith, h.few, h.long_bases)) (omega (arith, h.few, h.long_first_values)) (omega (arith, h.few, h.long_first_bases)) kept h.kept);
      are_rooms = h.are_rooms;
      selects = rw put (c.put.ensures rs (omega arith) stood h.selects);
    }

pub returns : goal.returns
returns c =
    let u = c.self.inside in
    let k = c.args.c in
    let ws = u.shape in
    let rs = take (length ws) u.registers in
    let shape : ws ≡ c.args.self.now.widths = ap (λ (v : UnitView). v.widths) c.self.view_is in
    let exists : k < length ws = rw shape c.requires.exists in
    let v = beginning_at c.args.place in
    let small : v < 2 ^ 64 = rw (← c.first_of-value.ensures) c.first_of-value.type_inv in
    rw c.first_of-value.ensures (ap (λ rs. record { widths = ws; registers = rs })
    (rw (take-set-lt (length ws) u.registers k c.args.place exists) (places_now-put rs u.values u.bases k c.args.place v (base_of v))
    ∙ ap (set (places_now rs u.values u.bases) k) (begins_now (get_or ws k 0) c.args.place (base_of v) (rw shape c.requires.begun) (base_of_nothing v small)))
    ∙ ap (λ (v : UnitView). record v { registers = set v.registers k c.args.place }) c.self.view_is)
