use Rattle.tool_output.proofs.Words.{◌≡◌, ◌++◌, filter, string_bytes, flat_map, range_with_len, heading, is_listed, row_line}
use Rattle.tool_output.proofs.listings.preset_lists.avail_list.Given as goal

abbrev pub invariant-loop-row : goal.invariant-loop-row
invariant-loop-row l =
    string_bytes l.text ≡ heading ++ flat_map (row_line l.catalog) (filter (is_listed l.catalog.book l.available_alone) (range_with_len 0 l.row))
