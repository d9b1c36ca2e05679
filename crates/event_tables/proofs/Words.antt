-- The words that the proofs of this crate share, passed on from one place. Declares nothing.
unfoldable pub use Rattle.csv.proofs.OnLiterals.{csv_on_literals}
pub use Rattle.csv.specs.Records.{fields_of}
pub use Rattle.event_tables.specs.Index.{GiveComponents, IsIndexed}
pub use Rattle.event_tables.specs.Kept.{HasCounters, IsComponent, IsCounter, IsEvent, IsEventLine, IsLine, IsMask, IsMaskLine, IsTables, IsWidth}
pub use Rattle.event_tables.specs.Lines.{Line, are_names, bad, component, component_line, counter, counter_line, event, event_line, fixed_mods}
pub use Rattle.event_tables.specs.Lines.{fixes_one, is_description, mask_of, row_line, skipped, umask, umask_counters, umask_counters_line}
pub use Rattle.event_tables.specs.Lines.{umask_line, umask_modifiers, umask_modifiers_line}
unfoldable pub use Rattle.event_tables.specs.Lines.{fixed_mods_of, flags_of, line_of, words_of}
pub use Rattle.event_tables.specs.Steps.{CanGrow, HasMask, grown, on_last_mask, with_counter, with_event, with_inner_mask, with_last_mask, with_line}
pub use Rattle.event_tables.specs.Steps.{with_mask}
pub use Rattle.event_tables.specs.Tables.{ComponentText, CounterText, EventText, MaskText, row_of_lower, same_name, shape_of}
pub use Rattle.event_tables.specs.Unit.{bits_of, component_cause, component_of, counter_cause, counter_place, counter_row, event_cause, event_row}
pub use Rattle.event_tables.specs.Unit.{fixing, inner_cause, inner_counters_cause, inner_mask_cause, is_modifier, last_of, mask_cause, modifier_words}
pub use Rattle.event_tables.specs.Unit.{place_bit, restricted, row_cause, within}
unfoldable pub use Rattle.event_tables.specs.Unit.{cause_in, components_in, counters_in, events_in, masks_in, on_last, unit_fault, unit_tables}
pub use Rattle.event_tables.specs.Views.{component_text, counter_text, event_text, mask_text}
pub use Rattle.event_tables.specs.declared.component.Component.{Component}
pub use Rattle.event_tables.specs.declared.component.Counter.{Counter}
pub use Rattle.event_tables.specs.declared.component.EventRow.{EventRow}
pub use Rattle.event_tables.specs.declared.component.UmaskRow.{UmaskRow}
pub use Rattle.event_tables.specs.declared.fault.RowCause.{RowCause}
pub use Rattle.event_tables.specs.declared.limits.TheConstants.{MOST_COMPONENT_EVENTS, MOST_UMASKS}
pub use Rattle.event_tables.specs.declared.row.Row.{Row}
pub use Rattle.papi_base.proofs.Steps.{all_at, list_any-map, passed_over}
pub use Rattle.papi_base.specs.declared.limits.TheConstants.{MOST_COMPONENTS, MOST_COUNTERS}
pub use Rattle.std.proofs.Common.{Bool, Bor, Err, List, None, Ok, Option, Some, [], ap, append_assoc, ap₂, arith, codes, false, get_or, length}
pub use Rattle.std.proofs.Common.{length-append, map, refl, rules, subst, suc, sym, take, tests, true, vec_len, zero, ℕ, ◌%◌, ◌*◌, ◌++◌, ◌+◌, ◌-◌}
pub use Rattle.std.proofs.Common.{◌<◌, ◌^◌, ◌∙◌, ◌∷◌, ◌≡◌, ◌≤◌}
pub use Rattle.std.proofs.Math.ListN.{set}
pub use Rattle.std.proofs.Math.Pow.{pow-lt}
pub use Rattle.std.proofs.lemmas.Bool.{and_parts, cond_both, leb-false, leb-true, not-true, or_parts}
pub use Rattle.std.proofs.lemmas.Iterator.{YieldsList-from_slice}
pub use Rattle.std.proofs.lemmas.Iterator.Adapters.{position_from-zero}
pub use Rattle.std.proofs.lemmas.Iterator.Consumers.{fold_from_yields_List}
pub use Rattle.std.proofs.lemmas.Iterator.Search.{all_from_yields_List, any_from_yields_List, position_from_yields_List}
pub use Rattle.std.proofs.lemmas.Iterator.Splits.{YieldsList-from_slice_split}
pub use Rattle.std.proofs.lemmas.List.{append-nil, length-map, length-take-le, map-append, take_more}
pub use Rattle.std.proofs.lemmas.Map.Text.{hash_map_updates_text}
pub use Rattle.std.proofs.lemmas.Nat.{le_or_l, le_or_r, or_comm, or_lt, pow_pos}
pub use Rattle.std.proofs.lemmas.Option.{slice_get-get_or, slice_get-map, slice_get_past}
pub use Rattle.std.proofs.lemmas.Result.{on_ok_weaker}
pub use Rattle.std.proofs.lemmas.Slice.Eq.{bytes_eq-Decides}
pub use Rattle.std.proofs.lemmas.Str.{encode_ascii}
pub use Rattle.std.proofs.lemmas.Str.Ascii.{lowercase_ascii}
pub use Rattle.std.specs.Char.{to_ascii_lowercase}
pub use Rattle.std.specs.HashMap.{get_by_text}
pub use Rattle.std.specs.Int.RustNames.{bit_or}
pub use Rattle.std.specs.List.{AllByRecursion, filter, fold, list_all, list_any, position_from, slice_split}
pub use Rattle.std.specs.Map.{update}
pub use Rattle.std.specs.Option.{option_and_then, option_map_or}
pub use Rattle.std.specs.Prelude.{IfSome, OnOk, Result, encode_utf8, if◌then◌else◌, is_some, nat_le, not, option_map, slice_get, string_bytes}
pub use Rattle.std.specs.Prelude.{unwrap_or, ⊤, ◌&&◌, ◌==◌, ◌||◌}
pub use Rattle.std.specs.Str.{bytes_eq, str_to_ascii_lowercase}
pub use Rattle.table_rows.proofs.Numerals.{name_byte-ascii}
pub use Rattle.table_rows.proofs.Ranges.{decimal_in-range, hex_in-range}
pub use Rattle.table_rows.proofs.Texts.{all-append, all-map, given, no_two-more, option_both}
unfoldable pub use Rattle.table_rows.specs.Rows.{rows_of}
pub use Rattle.table_rows.specs.Tables.{NoTwo, RefusesRow, TakesRow}
unfoldable pub use Rattle.table_rows.specs.Tables.{first_fault}
pub use Rattle.table_rows.specs.Texts.{Text, is_empty, is_name_byte, is_skipped}
unfoldable pub use Rattle.table_rows.specs.Texts.{decimal_in, hex_in, is_decimal, is_name, is_numeral, text_at, trimmed, without_front}
pub use Rattle.table_rows.specs.declared.fault.RowRefusal.{RowRefusal}
