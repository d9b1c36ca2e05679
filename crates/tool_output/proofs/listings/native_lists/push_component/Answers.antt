use Rattle.tool_output.proofs.Words.{◌≡◌, ◌∙◌, ◌<◌, ◌++◌, List, ap, get_or, length, string_bytes, subst, sym, option_copied, event_text, EventRow}
use Rattle.tool_output.proofs.Words.{Text, full_name, is_chosen, named_lines}
use Rattle.tool_output.proofs.ListedEvents.{none_listed, one_listed}
use Rattle.tool_output.proofs.listings.native_lists.push_component.Goals as goal
use Rattle.tool_output.proofs.listings.native_lists.push_component.Goals.{then-is_chosen+in_ok-push_event, else-is_chosen}

pub loop-event-preserved : goal.loop-event-preserved
loop-event-preserved c =
    let i = c.loop-event.event-index in
    let x = c.event-item.result in
    let included = option_copied c.args.selection.now.included in
    let excluded = option_copied c.args.selection.now.excluded in
    let pmu = string_bytes c.args.component.now.pmu in
    let items = c.as_slice-event-items.ensures.value in
    let within : i < length c.args.component.now.events.items = subst (λ (es : List EventRow). i < length es) items c.loop-event-test.true in
    let at : x ≡ get_or c.args.component.now.events.items i x = subst (λ (es : List EventRow). x ≡ get_or es i x) items c.event-item.is in
    let name : c.as_str.result.now ≡ full_name pmu (event_text x) = c.as_str.ensures.value ∙ c.in_ok-name.ensures.ok in
    elim c.if-is_chosen.branch [
      | then-is_chosen+in_ok-push_event w ↦
          rw (w.text-is, w.listed-is)
          (one_listed pmu included excluded c.args.selection.now.umasks _ i x _ _ _ _ within at (ap (is_chosen included excluded) (sym name) ∙ sym c.is_chosen.ensures ∙ w.if-is_chosen.true)
          (w.in_ok-push_event.ensures ∙ ap (λ (t : Text). string_bytes c.loop-event.text ++ named_lines c.args.selection.now.umasks t (event_text x))
          (w.as_str-then-is_chosen.ensures.value ∙ c.in_ok-name.ensures.ok))
          c.loop-event.invariant)
      | else-is_chosen w ↦
          rw (w.text-is, w.listed-is)
          (none_listed pmu included excluded c.args.selection.now.umasks _ i x _ _ _ within at (ap (is_chosen included excluded) (sym name) ∙ sym c.is_chosen.ensures ∙ w.if-is_chosen.false) c.loop-event.invariant)
    ]
