-- The words that the proofs of this crate share, passed on from one place. Declares nothing.
pub use Rattle.papi_base.proofs.Growing.{number_more}
pub use Rattle.papi_base.proofs.Steps.{all_at, list_any-map, none_any, passed_over}
pub use Rattle.profil_hist.specs.Counts.{IsThere, RowText, bucket_in, counts_text, met, no_counts, no_hits, rows_text, with_hit, with_note}
pub use Rattle.profil_hist.specs.Histograms.{HistText, IsHist, IsHistogram, bucket_count, has_bucket, hist_text, range_count}
pub use Rattle.profil_hist.specs.Lines.{IsLine, Line, range, range_line, skipped}
unfoldable pub use Rattle.profil_hist.specs.Lines.{line_of}
pub use Rattle.profil_hist.specs.Maps.{cause_in, range_cause, row_cause}
unfoldable pub use Rattle.profil_hist.specs.Maps.{ranges_in}
pub use Rattle.profil_hist.specs.Places.{ArePlacesOf, IsOrder, IsPlaceOf, IsPlaced}
pub use Rattle.profil_hist.specs.Profiles.{bucket_line, count_or_none, hist_lines, hits_or_none, lines_at, range_lines}
unfoldable pub use Rattle.profil_hist.specs.Profiles.{profile_text}
pub use Rattle.profil_hist.specs.Ranges.{IsMap, IsRange, RangeText, buckets_in_all, end_of, in_bucket, in_range, overlaps}
pub use Rattle.profil_hist.specs.Steps.{GiveRanges, with_line}
pub use Rattle.profil_hist.specs.Views.{range_text}
pub use Rattle.profil_hist.specs.declared.counts.RangeCounts.{RangeCounts}
pub use Rattle.profil_hist.specs.declared.fault.MapCause.{MapCause}
pub use Rattle.profil_hist.specs.declared.limits.TheConstants.{MOST_BUCKETS, MOST_RANGES}
pub use Rattle.profil_hist.specs.declared.placing.Place.{Place}
pub use Rattle.profil_hist.specs.declared.placing.RangeStart.{RangeStart}
pub use Rattle.profil_hist.specs.declared.range.MapRange.{MapRange}
pub use Rattle.std.proofs.Common.{Bool, Err, IfOk, List, None, Ok, Option, Result, Some, [], ap, arith, eq-eqb, false, get_or, length, length-append}
pub use Rattle.std.proofs.Common.{map, refl, rules, string_bytes, subst, suc, sym, take, tests, true, zero, ℕ, ◌*◌, ◌++◌, ◌+◌, ◌-◌, ◌<◌, ◌^◌}
pub use Rattle.std.proofs.Common.{◌∙◌, ◌∷◌, ◌≡◌, ◌≤◌}
pub use Rattle.std.proofs.Math.Bool.{or-true}
pub use Rattle.std.proofs.Math.ListN.{length-set, set}
pub use Rattle.std.proofs.Math.Nat.{mul-le-mul, mul-le-mul_right, mul_comm}
pub use Rattle.std.proofs.lemmas.Bool.{and_from, and_parts, cond_both, eqb-true, false_from_ne_true, le-leb, leb-false, leb-true, lt-ltb, ltb-false}
pub use Rattle.std.proofs.lemmas.Bool.{ltb-true, or_parts}
pub use Rattle.std.proofs.lemmas.Iterator.{YieldsList-from_slice}
pub use Rattle.std.proofs.lemmas.Iterator.Search.{any_from_yields_List}
pub use Rattle.std.proofs.lemmas.List.{get_or-map, get_or-replicate, length-map, length-replicate, map-set}
pub use Rattle.std.proofs.lemmas.List.Elements.{All-push}
pub use Rattle.std.proofs.lemmas.List.Folds.{list_any-append, list_any_at, sum_by-replicate}
pub use Rattle.std.proofs.lemmas.List.Sorted.{All-permutation, IsNonDecreasingBy-from_sort_by_key, IsPartitionPoint-from_clause, IsPartitionedBy-leb}
pub use Rattle.std.proofs.lemmas.List.Sorted.{list_any-IsPermutation}
pub use Rattle.std.proofs.lemmas.List.Sums.{get_or-le-sum_by, sum_by-append, sum_by-set}
pub use Rattle.std.proofs.lemmas.Option.{get_or_from_slice_get, slice_get-get_or, slice_get-map, slice_get_past, slice_get_within}
pub use Rattle.std.specs.List.{flat_map, list_any, range_with_len}
pub use Rattle.std.specs.List.Sorted.{IsPartitionPoint, IsPermutation}
pub use Rattle.std.specs.Option.{option_and_then, option_map_or}
pub use Rattle.std.specs.Prelude.{if◌then◌else◌, is_some, nat_le, nat_lt, option_map, replicate, slice_get, sum, sum_by, unwrap_or, ◌==◌, ◌||◌}
pub use Rattle.std.specs.Str.{bytes_eq}
pub use Rattle.table_rows.proofs.Ranges.{decimal_in-range}
pub use Rattle.table_rows.proofs.TablesRead.{takes-as}
pub use Rattle.table_rows.proofs.Texts.{all-append, no_two-more, option_both}
pub use Rattle.table_rows.specs.Tables.{NoTwo, TakesRow}
pub use Rattle.table_rows.specs.Texts.{Text}
pub use Rattle.table_rows.specs.declared.fault.RowRefusal.{RowRefusal}
