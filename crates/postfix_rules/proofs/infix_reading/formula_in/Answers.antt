use Rattle.postfix_rules.proofs.Words.{sym, subst, AnswersInfix}
use Rattle.postfix_rules.proofs.InfixEnds.{cause-in, reads-ended, reads-more, reads-none, reads-refused}
use Rattle.postfix_rules.proofs.infix_reading.formula_in.Goals as goal

pub loop-part-init : goal.loop-part-init
loop-part-init c = rw (c.new-order.ensures, c.as_bytes-rest.ensures.value) (reads-none c.args.natives c.args.text.now)

pub returns-in-Err : goal.returns-in-Err
returns-in-Err c =
    let s = c.loop-part in
    let first = c.in-Some.ensures.begins in
    let cause = cause-in c.args.natives s.order c.must_begin.result c.open.result first.0 _ c.must_begin.ensures c.open.ensures (c.in-Err.ensures first.0 first.2) in
    rw c.fault_after.ensures (reads-refused c.args.natives c.args.text.now s.rest.now c.in-Some.after.now s.tokens s.order first.0 c.in-Err.cause first.1 cause s.invariant)

pub loop-part-preserved : goal.loop-part-preserved
loop-part-preserved c =
    let s = c.loop-part in
    let first = c.in-Some.ensures.begins in
    let j = c.in-Ok.ensures first.0 first.2 in
    let none = cause-in c.args.natives s.order c.must_begin.result c.open.result first.0 _ c.must_begin.ensures c.open.ensures j.1 in
    rw c.in_ok-take-in-Ok.ensures (reads-more c.args.natives c.args.text.now s.rest.now c.in-Some.after.now s.tokens s.order first.0 c.in-Ok.token first.1 j.0 none c.in-Some.ensures.shorter s.invariant)

pub returns : goal.returns
returns c =
    let s = c.loop-part in
    subst (AnswersInfix c.end_formula.result) (sym (reads-ended c.args.natives c.args.text.now s.rest.now s.tokens s.order c.in_default.ensures.begins s.invariant)) c.end_formula.ensures
