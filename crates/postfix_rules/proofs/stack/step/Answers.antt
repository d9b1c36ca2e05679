use Rattle.std.proofs.Common.{◌≡◌, ◌∙◌, length, ◌-◌, pos, FitsSigned, w64, arith, refl, to_z-of_z, to_z, of_z, rules, get_or, lt-ltb, ◌^◌}
use Rattle.postfix_rules.specs.Values.{applied}
use Rattle.postfix_rules.proofs.Spelled.{constant-ok, native-ok, operator-ok}
use Rattle.postfix_rules.proofs.Stacks.{operator-pile, push-pile}
use Rattle.postfix_rules.proofs.stack.step.Goals as goal

pub overflow_cast-stack : goal.overflow_cast-stack
overflow_cast-stack c =
    let k = constant-ok (length c.args.counts.now) c.args.height c.in-Constant.n (rw c.in-Constant.is at c.requires.clear) in
    record { sfits = k.0 }

pub bounds-stack-height : goal.bounds-stack-height
bounds-stack-height c =
    let k = constant-ok (length c.args.counts.now) c.args.height c.in-Constant.n (rw c.in-Constant.is at c.requires.clear) in
    omega (arith, k.1)

pub bounds-counts-k : goal.bounds-counts-k
bounds-counts-k c = (native-ok (length c.args.counts.now) c.args.height c.in-Native.k (rw c.in-Native.is at c.requires.clear)).0

pub bounds-stack-height-in-Native : goal.bounds-stack-height-in-Native
bounds-stack-height-in-Native c =
    let k = native-ok (length c.args.counts.now) c.args.height c.in-Native.k (rw c.in-Native.is at c.requires.clear) in
    omega (arith, k.1)

pub overflow_sub-y : goal.overflow_sub-y
overflow_sub-y c =
    let k = operator-ok (length c.args.counts.now) c.args.height c.in-Operator.operator (rw c.in-Operator.is at c.requires.clear) in
    omega (arith, k)

pub overflow_sub-x : goal.overflow_sub-x
overflow_sub-x c = operator-ok (length c.args.counts.now) c.args.height c.in-Operator.operator (rw c.in-Operator.is at c.requires.clear)

pub overflow_sub-height : goal.overflow_sub-height
overflow_sub-height c = operator-ok (length c.args.counts.now) c.args.height c.in-Operator.operator (rw c.in-Operator.is at c.requires.clear)

pub overflow_sub-result : goal.overflow_sub-result
overflow_sub-result c =
    let k = operator-ok (length c.args.counts.now) c.args.height c.in-Operator.operator (rw c.in-Operator.is at c.requires.clear) in
    omega (arith, k)

pub returns-in-Constant-clause-stack : goal.returns-in-Constant-clause-stack
returns-in-Constant-clause-stack c =
    let k = constant-ok (length c.args.counts.now) c.args.height c.in-Constant.n (rw c.in-Constant.is at c.requires.clear) in
    let z : to_z w64 c.in-Constant.n ≡ pos c.in-Constant.n = rw (lt-ltb c.in-Constant.n (2 ^ 63) k.0) refl in
    rw (c.in-Constant.is, z) (push-pile c.args.stack.now c.args.height (pos c.in-Constant.n) (omega (arith, k.1, c.told-stack)))

pub returns-in-Native-clause-stack : goal.returns-in-Native-clause-stack
returns-in-Native-clause-stack c =
    let k = native-ok (length c.args.counts.now) c.args.height c.in-Native.k (rw c.in-Native.is at c.requires.clear) in
    let z : to_z w64 (of_z w64 (get_or c.args.counts.now c.in-Native.k (pos 0))) ≡ get_or c.args.counts.now c.in-Native.k (pos 0) = search rules in
    rw (c.in-Native.is, z) (push-pile c.args.stack.now c.args.height (get_or c.args.counts.now c.in-Native.k (pos 0)) (omega (arith, k.1, c.told-stack)))

pub returns-in-Operator-clause-stack : goal.returns-in-Operator-clause-stack
returns-in-Operator-clause-stack c =
    let k = operator-ok (length c.args.counts.now) c.args.height c.in-Operator.operator (rw c.in-Operator.is at c.requires.clear) in
    let x : to_z w64 (of_z w64 (get_or c.args.stack.now (c.args.height - 2) (pos 0))) ≡ get_or c.args.stack.now (c.args.height - 2) (pos 0) = search rules in
    let y : to_z w64 (of_z w64 (get_or c.args.stack.now (c.args.height - 1) (pos 0))) ≡ get_or c.args.stack.now (c.args.height - 1) (pos 0) = search rules in
    let q : FitsSigned w64 c.apply.result = record { sfits = c.apply.type_inv } in
    let is : c.apply.result ≡ applied c.in-Operator.operator (get_or c.args.stack.now (c.args.height - 2) (pos 0))
    (get_or c.args.stack.now (c.args.height - 1) (pos 0)) = rw (x, y) at c.apply.ensures in
    rw c.in-Operator.is (operator-pile c.args.counts.now c.args.stack.now c.args.height c.in-Operator.operator _ (pos 0) k (omega (arith, c.requires.few, c.told-stack)) (to_z-of_z q ∙ is))
