use Rattle.counter_unit.proofs.Words.{◌≤◌, ◌<◌, ◌^◌, ◌∙◌, Option, None, get_or, get_or-take, length, ap, subst, sym, arith, pow_mono, option_map, MOST_WIDTH}
use Rattle.counter_unit.proofs.Words.{Register, UnitView, at_place}
use Rattle.counter_unit.proofs.Kept.{now_at}
use Rattle.counter_unit.specs.Units.{IsKeptAt, place_now}
use Rattle.counter_unit.proofs.unit.Unit.register.Goals as goal

pub returns-in-Some-clause-value : goal.returns-in-Some-clause-value
returns-in-Some-clause-value c =
    let u = c.self.inside in
    let h = c.self.invariant in
    let k = c.args.c in
    let exists : k < length u.shape = rw (ap (λ (v : UnitView). v.widths) c.self.view_is) c.requires.exists in
    let value = option_map {T = Register} (λ r. r.value) in
    sym (ap (λ (p : Option Register). value (place_now p (get_or u.values k 0) (get_or u.bases k 0))) c.in-Some.is)
    ∙ ap value (now_at (length u.shape) u.registers u.values u.bases k exists (omega (arith, h.few, h.long)) (omega (arith, h.few, h.long_values)) (omega (arith, h.few, h.long_bases)))
    ∙ ap (λ (v : UnitView). value (at_place v.registers k)) c.self.view_is

pub returns-in-None-clause-value : goal.returns-in-None-clause-value
returns-in-None-clause-value c =
    let u = c.self.inside in
    let h = c.self.invariant in
    let k = c.args.c in
    let exists : k < length u.shape = rw (ap (λ (v : UnitView). v.widths) c.self.view_is) c.requires.exists in
    let value = option_map {T = Register} (λ r. r.value) in
    sym (ap (λ (p : Option Register). value (place_now p (get_or u.values k 0) (get_or u.bases k 0))) c.in-None.is)
    ∙ ap value (now_at (length u.shape) u.registers u.values u.bases k exists (omega (arith, h.few, h.long)) (omega (arith, h.few, h.long_values)) (omega (arith, h.few, h.long_bases)))
    ∙ ap (λ (v : UnitView). value (at_place v.registers k)) c.self.view_is

pub returns-in-Some-clause-small : goal.returns-in-Some-clause-small
returns-in-Some-clause-small c =
    let u = c.self.inside in
    let h = c.self.invariant in
    let k = c.args.c in
    let exists : k < length u.shape = rw (ap (λ (v : UnitView). v.widths) c.self.view_is) c.requires.exists in
    let stood = get_or-take (length u.shape) u.registers k None exists ∙ c.in-Some.is in
    let kept = subst (λ (p : Option Register). IsKeptAt (get_or u.shape k 0) p (get_or u.values k 0) (get_or u.bases k 0) (get_or u.first_values k 0) (get_or u.first_bases k 0)) stood (h.kept k exists) in
    let high : get_or u.shape k 0 ≤ MOST_WIDTH = rw (← c.width-width.ensures.width) c.width-width.ensures.high in
    let most : 2 ^ get_or u.shape k 0 ≤ 2 ^ MOST_WIDTH = pow_mono high in
    omega (arith, kept.below)
