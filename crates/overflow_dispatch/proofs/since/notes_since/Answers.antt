-- one list more
use Rattle.std.proofs.Common.{◌≡◌, arith, ap, sym, ◌∙◌, Some, slice_get}
use Rattle.std.proofs.lemmas.Option.{slice_get-get_or}
use Rattle.overflow_dispatch.proofs.SinceLemmas.{one_list_more}
use Rattle.overflow_dispatch.proofs.since.notes_since.Goals as goal

pub loop-i-preserved : goal.loop-i-preserved
loop-i-preserved g c =
    let i = c.loop-i.i in
    let handlers = c.args.handlers.now.items in
    let handler = c.index.result.now in
    let count = slice_get-get_or c.args.counts.now i 0 c.loop-i-test.true in
    let at : slice_get handlers i ≡ Some handler = slice_get-get_or handlers i handler (omega (arith, c.requires, c.loop-i-test.true)) ∙ ap Some (sym c.index.ensures) in
    rw c.in_ok-add_from.ensures (one_list_more _ _ _ _ handlers i _ handler count at c.loop-i.invariant)
