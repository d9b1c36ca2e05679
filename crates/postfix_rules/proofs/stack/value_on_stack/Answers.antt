use Rattle.std.proofs.Common.{◌≡◌, ◌∙◌, rules, get_or, to_z, of_z, w64, pos}
use Rattle.postfix_rules.proofs.Stacks.{ends, runs-more, token-clear}
use Rattle.postfix_rules.proofs.stack.value_on_stack.Goals as goal

pub step-height-requires-clause-clear : goal.step-height-requires-clause-clear
step-height-requires-clause-clear c = token-clear c.args.counts.now c.args.tokens.now c.loop-i.i c.loop-i.height c.loop-i.stack _ c.loop-i-test.true c.loop-i.invariant

pub loop-i-preserved : goal.loop-i-preserved
loop-i-preserved c = runs-more c.args.counts.now c.args.tokens.now c.loop-i.i c.loop-i.height c.step-height.result c.loop-i.stack c.step-height.new.stack _
    c.loop-i-test.true c.step-height.array_long c.loop-i.invariant c.step-height.ensures.height c.step-height.ensures.stack

pub returns : goal.returns
returns c =
    let same : to_z w64 (of_z w64 (get_or c.loop-i.stack 0 (pos 0))) ≡ get_or c.loop-i.stack 0 (pos 0) = search rules in
    same ∙ ends c.args.counts.now c.args.tokens.now c.loop-i.i c.loop-i.height c.loop-i.stack (pos 0) c.loop-i-test.false c.loop-i.invariant c.requires
