-- The words that the proofs of this crate share, passed on from one place. Declares nothing.
pub use Rattle.call_type.specs.CallNames.{word_of}
pub use Rattle.component_table.specs.Books.{is_available, is_derived, kind_of}
pub use Rattle.component_table.specs.Catalogs.{CatalogView, looked_up, row_count, shape_of}
pub use Rattle.component_table.specs.EventNames.{event_name}
pub use Rattle.counter_alloc.proofs.Fitting.{is_assignable_false, is_assignable_true}
pub use Rattle.counter_alloc.proofs.Results.{ok_of}
pub use Rattle.counter_alloc.specs.Assignments.{Assignable}
pub use Rattle.counter_alloc.specs.Listing.{is_assignable}
pub use Rattle.counter_alloc.specs.Masks.{AreMasks, masks_of}
pub use Rattle.counter_alloc.specs.Matchings.{MatchingView}
pub use Rattle.event_sets.proofs.Adding.{Ready, all_in_range, can_take, clash_is, full_of_natives, not_full, refused_full}
pub use Rattle.event_sets.proofs.Agreeing.{held_have_natives}
pub use Rattle.event_sets.proofs.Clashing.{are_masks, masks_at, refused_whole}
pub use Rattle.event_sets.proofs.JoinedNatives.{joins_new, joins_old}
pub use Rattle.event_sets.proofs.Sound.{held_fit}
pub use Rattle.event_sets.specs.Adding.{add_refusal}
pub use Rattle.event_sets.specs.Assigning.{blamed_unless, clash_of}
pub use Rattle.event_sets.specs.AtRest.{AtRest, Widths, cannot_take, clash_with, is_full, is_other, new_set, widths_at}
pub use Rattle.event_sets.specs.Sets.{IsSound, SetView}
pub use Rattle.event_sets.specs.declared.refusal.Clash.{Clash}
pub use Rattle.event_sets.specs.declared.refusal.Refusal.{Refusal}
pub use Rattle.event_sets.specs.declared.refusal.Refusal.TheVariants.{Conflict, Plain}
pub use Rattle.event_tables.specs.Kept.{IsComponent, IsEvent, IsTables}
pub use Rattle.event_tables.specs.Tables.{ComponentText, CounterText, EventText, MaskText, event_at, widths_of}
pub use Rattle.event_tables.specs.Views.{component_text, event_text, mask_text}
pub use Rattle.event_tables.specs.declared.component.Component.{Component}
pub use Rattle.event_tables.specs.declared.component.Counter.{Counter}
pub use Rattle.event_tables.specs.declared.component.EventRow.{EventRow}
pub use Rattle.itoa.proofs.Decimal.{minus_first}
pub use Rattle.name_encoder.proofs.Encoded.{native-allowed}
pub use Rattle.name_encoder.specs.Canonical.{canonical}
unfoldable pub use Rattle.name_encoder.specs.Flags.{bits_of}
pub use Rattle.name_encoder.specs.Judged.{nothing}
pub use Rattle.name_encoder.specs.Names.{Found, native_of}
unfoldable pub use Rattle.name_encoder.specs.Names.{common_of, fixed_of, values_of}
pub use Rattle.papi_base.proofs.Growing.{both, range_more}
pub use Rattle.papi_base.proofs.Steps.{all_at, drop_at, take_at}
pub use Rattle.papi_base.specs.declared.code.Code.{Code}
pub use Rattle.papi_base.specs.declared.code.Code.TheVariants.{Ecount, Einval, Eisrun, Enoevst}
pub use Rattle.papi_base.specs.declared.native.EventRef.{EventRef}
pub use Rattle.papi_base.specs.declared.native.Native.{Native}
pub use Rattle.postfix_rules.specs.Fitting.{Fits}
pub use Rattle.postfix_rules.specs.Presets.{Book, component_of_event, natives_of_event}
pub use Rattle.postfix_rules.specs.Sameness.{among, joined_by, same_event}
pub use Rattle.preset_csv.specs.Kinds.{kind_text}
pub use Rattle.session_model.specs.Faces.{Face, at}
pub use Rattle.session_model.specs.Refusals.{conflict_of, refusal_of}
pub use Rattle.std.proofs.Common.{Bool, Err, List, None, Ok, Option, Some, [], ap, append_assoc, ap₂, arith, codes, cond, drop, false, filter, get_or}
pub use Rattle.std.proofs.Common.{length, length-append, length-set, map, min, nat_eq, refl, rules, slice_get, string_bytes, subst, suc, sym, take}
pub use Rattle.std.proofs.Common.{to_z-of_z, true, w64, zero, ℕ, ◌%◌, ◌&&◌, ◌*◌, ◌++◌, ◌+◌, ◌-◌, ◌<◌, ◌==◌, ◌^◌, ◌∙◌, ◌∷◌, ◌≡◌, ◌≤◌}
pub use Rattle.std.proofs.Math.ListN.{set}
pub use Rattle.std.proofs.Math.Pow.{pow-lt}
pub use Rattle.std.proofs.lemmas.Bool.{or_left, or_right}
pub use Rattle.std.proofs.lemmas.Bool.Decides.{Decides-eqb, nat_tests, same_from_decides}
pub use Rattle.std.proofs.lemmas.Fmt.{IsAscii-signed, length-decimal-le}
pub use Rattle.std.proofs.lemmas.List.{append-nil, drop-set, drop_all, drop_more, flat_map_more, length-drop, length-map, map-append, map-id}
pub use Rattle.std.proofs.lemmas.List.{replicate-append-replicate, take_all, take_more, take_more_set}
pub use Rattle.std.proofs.lemmas.List.Concat.{flat_map-append}
pub use Rattle.std.proofs.lemmas.List.Elements.{filter-append}
pub use Rattle.std.proofs.lemmas.List.FromFn.{filter_of_map_range_with_len_more, length-range_with_len, map-range_with_len_more}
pub use Rattle.std.proofs.lemmas.List.Sums.{count_by-le-length, length-filter, sum_by-append}
pub use Rattle.std.proofs.lemmas.Option.{get_or_from_slice_get, slice_get-get_or, slice_get-map, slice_get_within}
pub use Rattle.std.proofs.lemmas.Slice.Eq.{starts_is}
pub use Rattle.std.proofs.lemmas.Str.{IsAscii-append, IsUtf8-from_ascii}
pub use Rattle.std.proofs.lemmas.Str.Ascii.{IsAscii-cons}
pub use Rattle.std.proofs.lemmas.Str.Pattern.{contains_text}
pub use Rattle.std.specs.Bool.{Decides}
pub use Rattle.std.specs.Fmt.{signed_decimal}
pub use Rattle.std.specs.Int.{bit_at, from_bool}
pub use Rattle.std.specs.Int.Bits.{or_zero_l, or_zero_r}
pub use Rattle.std.specs.Int.RustNames.{bit_or}
pub use Rattle.std.specs.List.{AllByRecursion, count_by, flat_map, list_any, range_with_len, starts_with, sum_by}
pub use Rattle.std.specs.Option.{option_and_then, option_copied, option_map, option_map_or}
pub use Rattle.std.specs.Prelude.{All, IsTrue, OnErr, OnOk, Result, decimal, if◌then◌else◌, is_none, is_ok, is_some, nat_le, slice_index, unwrap_or}
pub use Rattle.std.specs.Prelude.{◌||◌, ◌↔◌}
pub use Rattle.std.specs.Str.{IsAscii}
pub use Rattle.std.specs.Str.Iter.{HasSubslice}
pub use Rattle.tool_output.specs.Candidates.{alone, found, natives_at, natives_in_row, no_modifiers, preset_in, with_umask}
unfoldable pub use Rattle.tool_output.specs.Candidates.{candidates}
pub use Rattle.tool_output.specs.Choosing.{GivenSet, RefusedText, names_text, takes, with_named, with_text}
unfoldable pub use Rattle.tool_output.specs.Choosing.{with_texts}
pub use Rattle.tool_output.specs.Lines.{Text, spaces}
pub use Rattle.tool_output.specs.NativeLists.{component_lines, event_lines, full_name, is_chosen, listed_count, listed_events, named_lines}
pub use Rattle.tool_output.specs.NativeLists.{umask_line}
unfoldable pub use Rattle.tool_output.specs.NativeLists.{stands_in}
pub use Rattle.tool_output.specs.Open.{IsOpen, IsOver}
pub use Rattle.tool_output.specs.PresetEvents.{formula_line, native_line, native_lines, type_line}
pub use Rattle.tool_output.specs.PresetLists.{counts_line, heading, is_listed, row_line, rows}
unfoldable pub use Rattle.tool_output.specs.PresetLists.{preset_list}
pub use Rattle.tool_output.specs.Replies.{assigned_text, counter_text, members_below, reply_text, spaced}
unfoldable pub use Rattle.tool_output.specs.Replies.{clash_texts, line_text}
pub use Rattle.tool_output.specs.declared.replies.values.TheConstants.{LONGEST_LIST, LONGEST_VALUE}
pub use native.Mathlib.Numerals.{unary_clauses}
