use Rattle.std.proofs.Common.{◌∙◌, ◌<◌, ◌≤◌, length, sym, arith}
use Rattle.postfix_rules.proofs.InfixParts.{blank-more, nothing-left}
use Rattle.postfix_rules.proofs.infix_part.next_part.Goals as goal

pub loop-i-preserved : goal.loop-i-preserved
loop-i-preserved c =
    let lt : c.loop-i.i < length c.args.text.now = omega arith in
    c.loop-i.invariant ∙ blank-more c.args.text.now c.loop-i.i lt (sym c.is_blank.ensures ∙ c.if-not-is_blank.false)

pub returns-clause-begins : goal.returns-clause-begins
returns-clause-begins c =
    let le : length c.args.text.now ≤ c.loop-i.i = omega arith in
    c.loop-i.invariant ∙ nothing-left c.args.text.now c.loop-i.i le
