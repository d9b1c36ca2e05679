use Rattle.tool_output.proofs.Words.{◌∙◌, ◌++◌, ◌∷◌, ℕ, ap, sym, bit_at}
use Rattle.std.specs.Prelude.{◌==◌, string_bytes}
use Rattle.tool_output.specs.Replies.{Text, counter_text}
use Rattle.tool_output.proofs.Texts.{member_passed, member_pushed}
use Rattle.tool_output.proofs.replies.results.push_counters.Goals as goal
use Rattle.tool_output.proofs.replies.results.push_counters.Goals.{then-has+in_ok-push_word, else-has}

pub loop-counter-preserved : goal.loop-counter-preserved
loop-counter-preserved c =
    let f = counter_text c.args.catalog.now c.args.comp in
    let k = c.loop-counter.counter in
    let bit = ap (λ (s : ℕ). bit_at s k == 1) (sym c.from.ensures) ∙ sym c.has.ensures in
    elim c.if-has.branch [
      | then-has+in_ok-push_word w ↦
          rw w.text-is (member_pushed f k c.args.counters _ (string_bytes c.loop-counter.text) _ (bit ∙ w.if-has.true) c.loop-counter.invariant
          (w.in_ok-push_word.ensures ∙ ap (λ (t : Text). string_bytes c.loop-counter.text ++ 32 ∷ t) w.counter_name.ensures))
      | else-has w ↦ rw w.text-is (member_passed f k c.args.counters _ (string_bytes c.loop-counter.text) (bit ∙ w.if-has.false) c.loop-counter.invariant)
    ]
