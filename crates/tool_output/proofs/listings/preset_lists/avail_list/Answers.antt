use Rattle.tool_output.proofs.Words.{◌≡◌, ◌∙◌, ◌+◌, ◌++◌, ap, arith, filter, string_bytes, sym, flat_map, range_with_len, range_more, both, row_count}
use Rattle.tool_output.proofs.Words.{counts_line, heading, is_listed, preset_list, row_line, rows}
use Rattle.tool_output.proofs.Listed.{kept, passed, pushed, unmoved}
use Rattle.tool_output.proofs.listings.preset_lists.avail_list.Goals as goal
use Rattle.tool_output.proofs.listings.preset_lists.avail_list.Goals.{then-is_listed+in_ok-push_row, else-is_listed}

pub loop-row-preserved : goal.loop-row-preserved
loop-row-preserved c =
    let row = c.loop-row.row in
    let f = row_line c.args.catalog.now in
    let p = is_listed c.args.catalog.now.book c.args.available_alone in
    let line = string_bytes c.loop-row.text in
    elim c.if-is_listed.branch [
      | then-is_listed+in_ok-push_row w ↦
          rw w.text-is
          (pushed f _ _ row heading line _ (kept p (range_with_len 0 row) (range_with_len 0 (row + 1)) row (range_more row) (sym c.is_listed.ensures ∙ w.if-is_listed.true)) c.loop-row.invariant
          w.in_ok-push_row.ensures)
      | else-is_listed w ↦
          rw w.text-is
          (unmoved f _ _ heading line (passed p (range_with_len 0 row) (range_with_len 0 (row + 1)) row (range_more row) (sym c.is_listed.ensures ∙ w.if-is_listed.false)) c.loop-row.invariant)
    ]

pub returns : goal.returns
unfolding preset_list
returns c =
    let catalog = c.args.catalog.now in
    let p = is_listed catalog.book c.args.available_alone in
    let all : c.loop-row.row ≡ row_count catalog = omega (arith, c.loop-row-test.false, c.loop-row.auto.row-end, c.rows-row-end.ensures.rows) in
    record {
      text =
          both heading (string_bytes c.loop-row.text) _ (flat_map (row_line catalog) (filter p (rows catalog))) (counts_line catalog)
          (c.loop-row.invariant ∙ ap (λ k. heading ++ flat_map (row_line catalog) (filter p (range_with_len 0 k))) all) c.in_ok-push_counts.ensures;
    }
