use Rattle.soak_input.proofs.Words.{◌≡◌, ◌∙◌, ap, arith, sym, text_left}
use Rattle.soak_input.proofs.Drawing.{ended_text, filled_gives, filled_more}
use Rattle.soak_input.proofs.source.SoakSourceSource.read.Goals as goal
use Rattle.soak_input.proofs.source.SoakSourceSource.read.Goals.{then-self-len+else-self-eq0, else-self-len}

pub returns-then-self-eq0-clause-gives : goal.returns-then-self-eq0-clause-gives
returns-then-self-eq0-clause-gives c =
    let self = c.loop-filled.self in
    filled_gives _ c.loop-filled.buf (text_left self) c.loop-filled.filled c.loop-filled.invariant.within c.loop-filled.invariant.text
    (λ small. ended_text self.line.items self.given self.left self.generator (omega (arith, c.if-self-len.true, c.len.ensures.value)) c.if-self-eq0.true)

pub loop-filled-preserved : goal.loop-filled-preserved
loop-filled-preserved c =
    let same : text_left c.if-self-len.self ≡ text_left c.loop-filled.self =
    elim c.if-self-len.branch [
      | then-self-len+else-self-eq0 w ↦ rw w.self-is w.draw_line.ensures.text
      | else-self-len w ↦ ap text_left w.self-is
    ] in
    record {
      within = grind arith;
      text =
          filled_more _ c.loop-filled.buf (text_left c.loop-filled.self) c.give-filled.new.room _ _ c.loop-filled.filled c.give-filled.result c.loop-filled.invariant.within
          c.give-filled.ensures.bound c.loop-filled.invariant.text (sym same ∙ c.give-filled.ensures.text);
    }

pub returns-clause-gives : goal.returns-clause-gives
returns-clause-gives c =
    filled_gives _ c.loop-filled.buf (text_left c.loop-filled.self) c.loop-filled.filled c.loop-filled.invariant.within c.loop-filled.invariant.text (λ small. absurd (omega arith))
