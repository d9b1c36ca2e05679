use Rattle.std.proofs.Common.{◌∙◌, ◌<◌, ℕ, Some, subst, sym, arith}
use Rattle.std.specs.Prelude.{Option, unwrap_or}
use Rattle.name_encoder.proofs.Bounds.{value-bound}
use Rattle.name_encoder.proofs.attribute.cmask_value.Goals as goal

pub overflow_cast-result : goal.overflow_cast-result
overflow_cast-result c =
    let bound = subst (λ (o : Option ℕ). unwrap_or o 0 < 256) (sym c.cmask_number.ensures ∙ c.in-Some-cmask_number.is) (value-bound (Some c.in-Some.text.now)) in
    omega (arith, bound)
