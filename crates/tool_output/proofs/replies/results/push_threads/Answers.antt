use Rattle.std.proofs.Common.{◌∙◌, sym}
use Rattle.std.specs.Prelude.{decimal, string_bytes}
use Rattle.tool_output.proofs.Texts.{member_passed, member_pushed}
use Rattle.tool_output.proofs.replies.results.push_threads.Goals as goal
use Rattle.tool_output.proofs.replies.results.push_threads.Goals.{then-has+in_ok-push_number, else-has}

pub loop-thread-preserved : goal.loop-thread-preserved
loop-thread-preserved c =
    let k = c.loop-thread.thread in
    let line = string_bytes c.loop-thread.text in
    elim c.if-has.branch [
      | then-has+in_ok-push_number w ↦ rw w.text-is (member_pushed decimal k c.args.threads _ line _ (sym c.has.ensures ∙ w.if-has.true) c.loop-thread.invariant w.in_ok-push_number.ensures)
      | else-has w ↦ rw w.text-is (member_passed decimal k c.args.threads _ line (sym c.has.ensures ∙ w.if-has.false) c.loop-thread.invariant)
    ]
