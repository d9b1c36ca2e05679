use Rattle.std.proofs.Common.{◌≤◌, length, refl, arith}
use Rattle.postfix_rules.proofs.Components.{same-all}
use Rattle.postfix_rules.proofs.derived.are_of_one_component.Goals as goal

pub returns : goal.returns
returns c =
    let le : length c.args.natives.now ≤ c.loop-i.i = omega (arith, c.len-i-end.ensures.length, c.loop-i-test.false) in
    (λ _. same-all c.args.natives.now c.at-comp.result.comp c.loop-i.i le c.loop-i.invariant, λ _. refl)
