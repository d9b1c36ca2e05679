-- The words that the proofs of this crate share, passed on from one place. Declares nothing.
pub use Rattle.call_type.specs.declared.call.Call.{Call}
pub use Rattle.papi_base.proofs.Growing.{item_more, number_more, numbers_all}
pub use Rattle.papi_base.proofs.Steps.{drop_at, drop_item}
pub use Rattle.papi_base.specs.Numerals.{is_empty}
pub use Rattle.papi_base.specs.declared.limits.TheConstants.{THREADS}
pub use Rattle.region_report.specs.CallLines.{AreEvents, ReadsAsCalls, ThreadCall, asked_at, asked_first, asks, call_for, is_event}
pub use Rattle.region_report.specs.CallLines.{is_event_character, numbered, opening_calls}
unfoldable pub use Rattle.region_report.specs.CallLines.{asked}
pub use Rattle.region_report.specs.Calls.{add_text, call_text, has_lines, line_text, opening, thread_opening, words_of_call}
unfoldable pub use Rattle.region_report.specs.Calls.{script_text}
pub use Rattle.region_report.specs.Kept.{IsRegions, count_of}
pub use Rattle.region_report.specs.Lines.{after_call, after_line, after_reading, is_reading}
pub use Rattle.region_report.specs.Opens.{open_text, stack_text, stacks_text}
pub use Rattle.region_report.specs.Reports.{ends, is_begin, is_end, name_of, names_of, read_text, region_text, thread_text, total, total_text}
pub use Rattle.region_report.specs.Reports.{values_text, with_begin, with_end, with_name}
pub use Rattle.region_report.specs.Scripts.{above_line, all_ended, none_open, region_scripts}
unfoldable pub use Rattle.region_report.specs.Scripts.{regions_of}
pub use Rattle.region_report.specs.Spans.{Span, has_spans, reading_values, span, span_text, spans_at}
unfoldable pub use Rattle.region_report.specs.Spans.{pairwise, spans_from}
pub use Rattle.region_report.specs.Totals.{changed, ends_one, place_of, total_of, totals_text, with_instance, with_instance_at}
pub use Rattle.region_report.specs.declared.fault.RegionCause.{RegionCause}
pub use Rattle.region_report.specs.declared.fault.RegionCause.TheVariants.{NotEnded}
pub use Rattle.region_report.specs.declared.opened.OpenRegion.{OpenRegion}
pub use Rattle.region_report.specs.declared.regions.RegionCall.{RegionCall}
pub use Rattle.region_report.specs.declared.regions.RegionLine.{RegionLine}
pub use Rattle.region_report.specs.declared.totals.RegionTotal.{RegionTotal}
pub use Rattle.script_lines.proofs.LineCuts.{lines-cut}
pub use Rattle.script_lines.proofs.Reading.{Reads, no_more, reads-end, reads-fault, reads-line, reads-skipped, reads-start, said}
pub use Rattle.script_lines.proofs.Splits.{is_plain, no-words, word-ends}
pub use Rattle.script_lines.specs.Arguments.{number_in, number_or}
pub use Rattle.script_lines.specs.ByLine.{Refused, lines_from, onto, put_before}
pub use Rattle.script_lines.specs.Calls.{call_of}
unfoldable pub use Rattle.script_lines.specs.Calls.{call_rows}
pub use Rattle.script_lines.specs.Lines.{is_skipped, line_of_words, line_with, thread_in}
unfoldable pub use Rattle.script_lines.specs.Lines.{call_line}
pub use Rattle.script_lines.specs.Scripts.{scripts}
unfoldable pub use Rattle.script_lines.specs.Scripts.{script_of}
unfoldable pub use Rattle.script_lines.specs.Words.{words_of}
pub use Rattle.script_lines.specs.declared.fault.ScriptCause.TheVariants.{BadNumber, BadThread}
pub use Rattle.std.proofs.Common.{All, Bool, Err, Global, List, None, Ok, OnOk, Result, Some, Vec, [], ap, append-nil, append_assoc, ap₂, arith}
pub use Rattle.std.proofs.Common.{codes, cond, count_by, decimal, drop, eq-eqb, false, get_or, if◌then◌else◌, length, length-append, map, min, nat_le}
pub use Rattle.std.proofs.Common.{not, refl, rules, slice_get, slice_index, slice_set, string_bytes, subst, suc, sym, take, tests, true, w64, zero, ℕ}
pub use Rattle.std.proofs.Common.{ℤ, ◌*◌, ◌++◌, ◌+◌, ◌-◌, ◌<◌, ◌^◌, ◌∙◌, ◌∷◌, ◌≡◌, ◌≤◌}
pub use Rattle.std.proofs.lemmas.Bool.{and_from, and_parts, le-leb, leb-false, leb-true, lt-ltb, ltb-false, ne_eqb, or_parts}
pub use Rattle.std.proofs.lemmas.Fmt.{decimal_digit, decimal_nonempty, first_decimal}
pub use Rattle.std.proofs.lemmas.Grind.{common_steps, elements, flat_map-append}
pub use Rattle.std.proofs.lemmas.Int.{to_z-of_z}
pub use Rattle.std.proofs.lemmas.List.{drop_all, drop_more, get_or-replicate, length-map, length-take-le, map-append, map-set, take_all, take_at}
pub use Rattle.std.proofs.lemmas.List.{take_more}
pub use Rattle.std.proofs.lemmas.List.Elements.{All-cons, All-nil, All-push, recursion_from_All}
pub use Rattle.std.proofs.lemmas.List.Folds.{flat_map-map, list_any-append, list_any_more}
pub use Rattle.std.proofs.lemmas.List.Sums.{count_by-le-length, fold-append, sum_by-append}
pub use Rattle.std.proofs.lemmas.Result.{on_ok_weaker}
pub use Rattle.std.proofs.lemmas.Slice.Eq.{bytes_eq-Decides}
pub use Rattle.std.specs.Bool.{Decides}
pub use Rattle.std.specs.Fmt.{signed_decimal}
pub use Rattle.std.specs.Int.{int_wrapping_add}
pub use Rattle.std.specs.List.{AllByRecursion, flat_map, list_all, list_any, position_or_len, range_with_len}
pub use Rattle.std.specs.Prelude.{fold, nat_lt, pos, position, replicate, slice_index_or, ◌&&◌, ◌==◌}
pub use Rattle.std.specs.Str.{bytes_eq}
pub use Rattle.std.specs.Str.Lines.{lines, strip_carriage_return}
pub use Rattle.table_rows.proofs.Texts.{Digits, decimal-digits, decimal-numeral, decimal-value}
pub use Rattle.table_rows.specs.Texts.{Text, is_printable, is_printable_byte}
unfoldable pub use Rattle.table_rows.specs.Texts.{decimal_in, is_decimal, is_numeral}
