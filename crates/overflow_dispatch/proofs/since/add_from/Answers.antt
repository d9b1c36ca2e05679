use Rattle.std.proofs.Common.{sym, ◌∙◌}
use Rattle.overflow_dispatch.proofs.SinceLemmas.{none_more, one_more}
use Rattle.overflow_dispatch.proofs.since.add_from.Goals as goal
use Rattle.overflow_dispatch.proofs.since.add_from.Goals.{in-Some+in_ok-push, in_default}

pub loop-i-preserved : goal.loop-i-preserved
loop-i-preserved g c =
    let handler = c.args.handler.now in
    let told = (goal.Handler-dyn g (handler.vtable, handler.value)).notes handler.value in
    elim c.match-note_of.branch [
      | in-Some+in_ok-push w ↦
          rw (w.all-is, w.in_ok-push.ensures.items) (one_more c.loop-i.all.items told c.loop-i.i w.in-Some.note (sym c.note_of.ensures ∙ w.in-Some.is) ∙ c.loop-i.invariant)
      | in_default w ↦
          rw w.all-is (none_more c.loop-i.all.items told c.loop-i.i (sym c.note_of.ensures ∙ w.in_default.is) ∙ c.loop-i.invariant)
    ]
