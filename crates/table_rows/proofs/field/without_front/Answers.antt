use Rattle.table_rows.proofs.Words.{◌∙◌, ◌-◌, length, drop, sym, ap, arith, length-drop, take_all, drop_all, without_front}
use Rattle.table_rows.proofs.Trimming.{front-blank, front-plain, front-none}
use Rattle.table_rows.proofs.field.without_front.Goals as goal

pub returns-then-not-is_blank : goal.returns-then-not-is_blank
returns-then-not-is_blank c =
    let s = c.args.bytes.now in
    let i = c.loop-i.i in
    let plain = front-plain s i c.loop-i-test.true (sym c.is_blank.ensures ∙ c.if-not-is_blank.true) in
    take_all (length s - i) (drop i s) (omega (arith, length-drop i s)) ∙ sym (c.loop-i.invariant ∙ plain)

pub loop-i-preserved : goal.loop-i-preserved
loop-i-preserved c =
    c.loop-i.invariant ∙ front-blank c.args.bytes.now c.loop-i.i c.loop-i-test.true (sym c.is_blank.ensures ∙ c.if-not-is_blank.false)

pub returns : goal.returns
returns c =
    let none = drop_all c.loop-i.i c.args.bytes.now c.loop-i-test.false in
    sym (c.loop-i.invariant ∙ ap without_front none ∙ front-none)
