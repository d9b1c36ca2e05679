use Rattle.tool_output.proofs.Words.{◌≡◌, count_by, range_with_len, is_available, is_derived}
use Rattle.tool_output.proofs.listings.preset_lists.push_counts.Given as goal

abbrev pub invariant-loop-row : goal.invariant-loop-row
invariant-loop-row l = record {
  available : l.available ≡ count_by (is_available l.catalog.book) (range_with_len 0 l.row);
  derived : l.derived ≡ count_by (is_derived l.catalog.book) (range_with_len 0 l.row);
}
