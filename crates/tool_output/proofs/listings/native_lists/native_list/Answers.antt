use Rattle.tool_output.proofs.Words.{arith, option_copied, component_text}
use Rattle.tool_output.proofs.ListedEvents.{few_listed, one_component}
use Rattle.tool_output.proofs.Tables.{is_there}
use Rattle.tool_output.proofs.listings.native_lists.native_list.Goals as goal
use Rattle.tool_output.proofs.listings.native_lists.native_list.Goals.{in-Some+in_ok-total, in_default}

pub overflow_add-total : goal.overflow_add-total
overflow_add-total c =
    let kept = c.components-place-end.ensures.kept in
    omega (
      arith,
      c.loop-place.invariant.few,
      c.in_ok-total.ensures.count,
      kept.few,
      c.loop-place-test.true,
      c.components-place-end.ensures.count,
      few_listed (option_copied c.args.included) (option_copied c.args.excluded) c.args.tables.now c.loop-place.place c.in-Some.component.now kept c.in-Some.ensures,
    )

pub loop-place-preserved : goal.loop-place-preserved
loop-place-preserved c =
    let tables = c.args.tables.now in
    let kept = c.components-place-end.ensures.kept in
    elim c.match-component.branch [
      | in-Some+in_ok-total w ↦
          rw (w.text-is, w.total-is)
          (one_component _ _ _ tables c.loop-place.place w.in-Some.component.now _ _ _ _ _ kept w.in-Some.ensures w.in_ok-total.ensures.count
          w.in_ok-total.ensures.text c.loop-place.invariant)
      | in_default w ↦ absurd (is_there (λ x. component_text x.now) c.component.result tables c.loop-place.place c.component.ensures w.in_default.not-Some (omega (arith, c.loop-place-test.true, c.components-place-end.ensures.count)))
    ]
