use Rattle.tool_output.proofs.Words.{◌∙◌, ◌++◌, ◌∷◌, ap, arith, assigned_text}
use Rattle.std.specs.Prelude.{string_bytes, zip}
use Rattle.tool_output.proofs.Texts.{get-zip, item_pushed, items_pushed, pushed_none, zip_within}
use Rattle.tool_output.proofs.replies.results.push_assignment.Goals as goal

pub loop-i-init : goal.loop-i-init
loop-i-init c = pushed_none _

pub loop-i-preserved : goal.loop-i-preserved
loop-i-preserved c =
    let natives = c.args.assigned.now.natives in
    let counters = c.args.assigned.now.counters in
    item_pushed (assigned_text c.args.catalog.now) (zip natives counters) c.loop-i.i _ _ _ _ (get-zip natives counters c.loop-i.i c.at-native.result c.at.result c.at-native.ensures.item c.at.ensures.item) c.loop-i.invariant
    (c.in_ok-push_assigned.ensures ∙ ap (λ k. string_bytes c.loop-i.text ++ 32 ∷ assigned_text c.args.catalog.now (c.at-native.result, k)) c.from-counter.ensures)

pub returns : goal.returns
returns c = items_pushed (assigned_text c.args.catalog.now) _ c.loop-i.i _ _
    (zip_within c.args.assigned.now.natives c.args.assigned.now.counters c.loop-i.i (omega (arith, c.loop-i-test.false, c.min-i-end.ensures, c.len.ensures.length, c.len-2.ensures.length)))
    c.loop-i.invariant
