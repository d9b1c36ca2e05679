use Rattle.tool_output.proofs.Words.{◌∙◌, ◌+◌, ap, arith, from_bool, is_available, is_derived}
use Rattle.tool_output.proofs.Listed.{count_within, counted_row}
use Rattle.tool_output.proofs.listings.preset_lists.push_counts.Goals as goal

pub overflow_add-available : goal.overflow_add-available
overflow_add-available c =
    let p = is_available c.args.catalog.now.book in
    let more = counted_row p c.loop-row.row c.loop-row.available c.from.result c.loop-row.invariant.available (c.from.ensures ∙ ap from_bool c.available.ensures.available) in
    omega (arith, more, count_within p (c.loop-row.row + 1), c.rows-count.ensures.rows, c.loop-row-test.true)

pub overflow_add-derived : goal.overflow_add-derived
overflow_add-derived c =
    let p = is_derived c.args.catalog.now.book in
    let more = counted_row p c.loop-row.row c.loop-row.derived c.from-in-loop-row.result c.loop-row.invariant.derived (c.from-in-loop-row.ensures ∙ ap from_bool c.derived.ensures.derived) in
    omega (arith, more, count_within p (c.loop-row.row + 1), c.rows-count.ensures.rows, c.loop-row-test.true)

pub loop-row-preserved : goal.loop-row-preserved
loop-row-preserved c =
    let book = c.args.catalog.now.book in
    record {
      available = counted_row (is_available book) c.loop-row.row _ _ c.loop-row.invariant.available (c.from.ensures ∙ ap from_bool c.available.ensures.available);
      derived = counted_row (is_derived book) c.loop-row.row _ _ c.loop-row.invariant.derived (c.from-in-loop-row.ensures ∙ ap from_bool c.derived.ensures.derived);
    }
