use Rattle.counter_unit.proofs.Words.{◌≡◌, Bool, true, false, refl, ap, ap₂, sym, ◌∙◌, arith, bit_and, ◌&&◌, if◌then◌else◌, min, bit_at, bit_at_and}
use Rattle.counter_unit.proofs.Words.{at_place, bit_of, has, mode_of}
use Rattle.counter_unit.specs.declared.selects.Key.TheVariants as key
use Rattle.counter_unit.proofs.selects.Selects.at.Goals as goal
use Rattle.counter_unit.proofs.selects.Selects.at.Goals.{then-o, else-o}

both : (a b : Bool) → min (bit_of a) (bit_of b) ≡ bit_of (a && b)
both true true = refl
both true false = refl
both false true = refl
both false false = refl

pub returns : goal.returns
returns c registers h k below =
    let o = c.args.o.now in
    let place = at_place registers k in
    let coded : bit_at c.if-o.coded k ≡ bit_of (has (mode_of o) o.select place) = elim c.if-o.branch [
      | then-o w ↦ ap (λ m. bit_at m k) w.coded-is ∙ h.kernel.each o.select k (omega arith) below ∙ sym (ap (λ b. bit_of (has (if b then key.Kernel else key.User) o.select place)) w.if-o.true)
      | else-o w ↦ ap (λ m. bit_at m k) w.coded-is ∙ h.user.each o.select k (omega arith) below ∙ sym (ap (λ b. bit_of (has (if b then key.Kernel else key.User) o.select place)) w.if-o.false)
    ] in
    let first = bit_at_and _ c.if-o.coded k ∙ ap₂ min (h.comps.each o.comp k (omega arith) below) coded ∙ both (has key.Comp o.comp place) (has (mode_of o) o.select place) in
    bit_at_and (bit_and _ c.if-o.coded) _ k ∙ ap₂ min first (h.umasks.each o.umask k (omega arith) below) ∙ both (has key.Comp o.comp place && has (mode_of o) o.select place) (has key.Umask o.umask place)
