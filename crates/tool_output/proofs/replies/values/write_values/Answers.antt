use Rattle.tool_output.proofs.Words.{◌≡◌, ◌-◌, ◌++◌, ◌∷◌, ◌∙◌, w64, arith, refl, ap, sym, drop, rules, length, signed_decimal, LONGEST_VALUE}
use Rattle.std.proofs.lemmas.Int.{to_z-of_z}
use Rattle.tool_output.proofs.Texts.{none_before, one_before}
use Rattle.tool_output.proofs.replies.values.write_values.Goals as goal

pub loop-written-init : goal.loop-written-init
loop-written-init c = record { low = omega arith; high = omega arith; ascii = λ h. h; gathered = none_before signed_decimal c.args.values.now _ }

pub loop-written-preserved : goal.loop-written-preserved
loop-written-preserved c =
    let k : LONGEST_VALUE ≡ 21 = refl in
    let old = c.loop-written.invariant in
    let w = c.write_value-at.ensures in
    let values = c.args.values.now in
    let place = length values - 1 - c.loop-written.written in
    let x = c.value_at-value.result in
    record {
      low = omega (arith, k, old.low, w.near);
      high = omega (arith, old.high, w.before);
      ascii = λ h. w.ascii (old.ascii h);
      gathered = one_before signed_decimal values c.loop-written.written place x _ _ _ c.value_at-value.ensures
          (omega (arith, c.loop-written-test.true)) old.gathered
          (sym w.written ∙ ap (λ z. 32 ∷ (signed_decimal z ++ drop c.loop-written.at c.loop-written.bytes)) (to_z-of_z w64 x (search rules)));
    }
