use Rattle.std.proofs.Common.{◌≡◌, ◌∙◌, ◌+◌, length, sym, subst, arith}
use Rattle.script_lines.proofs.Splits.{Reads, reads-byte, reads-end, reads-ended}
use Rattle.script_lines.proofs.words.split_words.Goals as goal
use Rattle.script_lines.proofs.words.split_words.Goals.{then-is_blank+in_ok-push_word, else-is_blank}

pub loop-i-preserved : goal.loop-i-preserved
loop-i-preserved c =
    let s = c.args.line.now in
    let lt = c.loop-i-test.true in
    elim c.if-is_blank.branch [
      | then-is_blank+in_ok-push_word w ↦
          rw (w.from-is, w.words-is)
          (subst (Reads s (c.loop-i.i + 1) (c.loop-i.i + 1)) (sym w.in_ok-push_word.ensures) (reads-ended s c.loop-i.from c.loop-i.i _ lt (sym c.is_blank.ensures ∙ w.if-is_blank.true) c.loop-i.invariant))
      | else-is_blank w ↦ rw (w.from-is, w.words-is) (reads-byte s c.loop-i.from c.loop-i.i _ lt (sym c.is_blank.ensures ∙ w.if-is_blank.false) c.loop-i.invariant)
    ]

pub returns : goal.returns
returns c =
    let at_end : c.loop-i.i ≡ length c.args.line.now = omega arith in
    c.in_ok-push_word-2.ensures ∙ reads-end c.args.line.now c.loop-i.from c.loop-i.i _ at_end c.loop-i.invariant
