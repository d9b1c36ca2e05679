use Rattle.postfix_rules.proofs.postfix_order.PostfixOrder.must_begin.Goals as goal

pub returns : goal.returns
returns c = cc
