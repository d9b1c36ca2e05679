-- The words that the proofs of this crate share, passed on from one place. Declares nothing.
pub use Rattle.event_tables.proofs.Searches.{position_from-lt, position_from-map}
pub use Rattle.event_tables.specs.Kept.{IsComponent, IsEvent, IsMask, IsTables}
pub use Rattle.event_tables.specs.Tables.{ComponentText, CounterText, EventText, MaskText, event_at, event_of_lower, row_of_lower, shape_of}
pub use Rattle.event_tables.specs.Tables.{widths_of}
pub use Rattle.event_tables.specs.Views.{component_text, counter_text, event_text, mask_text}
pub use Rattle.event_tables.specs.declared.component.FixedMods.{FixedMods}
pub use Rattle.event_tables.specs.declared.component.UmaskRow.{UmaskRow}
pub use Rattle.name_encoder.specs.Canonical.{ReadsBack, free_mods, text_if}
unfoldable pub use Rattle.name_encoder.specs.Canonical.{canonical, code64, flags_in, masks_text, mods_text}
pub use Rattle.name_encoder.specs.Flags.{flag_bit}
unfoldable pub use Rattle.name_encoder.specs.Flags.{bits_of}
pub use Rattle.name_encoder.specs.Judged.{flags_given, given_next, is_named, mask_given, meaning_text, modifier_given, mods_given, native_next}
pub use Rattle.name_encoder.specs.Judged.{nothing, said_given, value_given, wanted_given, with_mask, with_value}
unfoldable pub use Rattle.name_encoder.specs.Judged.{all_given}
pub use Rattle.name_encoder.specs.Names.{FitsShape, Found, Meaning, Modifier, SaidAttribute, Wanted, agrees, allowed_with, asks_other, both_fixed}
pub use Rattle.name_encoder.specs.Names.{choice, choices, chosen, clashes, cmask, contradicts, edge, event_allowed, event_fixed, fixed_if, given_to}
pub use Rattle.name_encoder.specs.Names.{has_true, invert, is_set, kernel, mask, mask_row, meaning_fault, means, met, modifier, mods_of, named_event}
pub use Rattle.name_encoder.specs.Names.{named_found, names_alone, names_mask, native_chosen, native_of, native_or, native_unless, programmable, rank}
pub use Rattle.name_encoder.specs.Names.{row_alone, said_fault, said_of, saids_of, same_meaning, umasks_fault, user, value_of, wanted_of, with_fixed}
unfoldable pub use Rattle.name_encoder.specs.Names.{cmask_value, common_of, event_from, fault_from, fixed_of, flag_value, found_from, meaning_of}
unfoldable pub use Rattle.name_encoder.specs.Names.{modifier_of, named_from, names, set_to, values_of}
pub use Rattle.name_encoder.specs.Split.{Split}
unfoldable pub use Rattle.name_encoder.specs.Split.{attribute_of, cut_at, split}
pub use Rattle.name_encoder.specs.Views.{between_colons, found_text, parts_split, text_of}
pub use Rattle.name_encoder.specs.declared.attribute.Attributes.{Attributes}
pub use Rattle.name_encoder.specs.declared.fault.NameFault.{NameFault}
pub use Rattle.papi_base.proofs.Steps.{not_given, passed_over}
pub use Rattle.papi_base.specs.declared.native.Mods.{Mods}
pub use Rattle.papi_base.specs.declared.native.Native.{Native}
pub use Rattle.std.proofs.Common.{Bool, Err, List, None, Ok, Option, Result, Some, [], ap, append-nil, append_assoc, ap₂, arith, codes, decimal, drop}
pub use Rattle.std.proofs.Common.{false, find, get_or, inl, inr, is_none, length, map, nat_eq, nat_lt, option_map, refl, rules, slice_get, subst, suc}
pub use Rattle.std.proofs.Common.{sym, take, tests, true, unwrap_or, zero, ℕ, ◌%◌, ◌&&◌, ◌*◌, ◌++◌, ◌+◌, ◌-◌, ◌/◌, ◌<◌, ◌==◌, ◌^◌, ◌||◌, ◌∙◌, ◌∷◌}
pub use Rattle.std.proofs.Common.{◌≡◌, ◌≤◌, ◌⊎◌}
pub use Rattle.std.proofs.Math.ListN.{set}
pub use Rattle.std.proofs.Math.Nat.{two-pow-succ}
pub use Rattle.std.proofs.Math.Seq.{take-set-lt}
pub use Rattle.std.proofs.lemmas.Bool.{agree_below, agree_below_at, and_from, and_parts, cond_both, eq-eqb, eqb-true, false_from_ne_true, le-leb}
pub use Rattle.std.proofs.lemmas.Bool.{ltb-false, ltb-true, ne_eqb, or_cases, or_left, or_parts, or_right}
pub use Rattle.std.proofs.lemmas.Grind.{elements}
pub use Rattle.std.proofs.lemmas.Iterator.{YieldsList-from_slice}
pub use Rattle.std.proofs.lemmas.Iterator.Adapters.{position_from-zero}
pub use Rattle.std.proofs.lemmas.Iterator.Search.{position_from_yields_List}
pub use Rattle.std.proofs.lemmas.List.{drop_all, drop_more, length-append, length-drop, length-map, length-set, map-append, take_more, take_more_set}
pub use Rattle.std.proofs.lemmas.List.Folds.{find-append, list_any-append}
pub use Rattle.std.proofs.lemmas.Nat.{and_le_l, pow_pos}
pub use Rattle.std.proofs.lemmas.Option.{slice_get-get_or, slice_get-map, slice_get_within}
pub use Rattle.std.proofs.lemmas.Result.{IfOk-weaker}
pub use Rattle.std.proofs.lemmas.Slice.Eq.{bytes_eq-Decides}
pub use Rattle.std.specs.Borrow.{Bor}
pub use Rattle.std.specs.Char.{to_ascii_lowercase}
unfoldable pub use Rattle.std.specs.Fmt.{digits}
pub use Rattle.std.specs.Int.RustNames.{bit_and, bit_or}
pub use Rattle.std.specs.List.{AllByRecursion, list_all, list_any, onto_first, position_from, slice_split, starts_with}
pub use Rattle.std.specs.Option.{option_and_then, option_map_or, option_or}
pub use Rattle.std.specs.Prelude.{if◌then◌else◌, is_some, not, string_bytes, ⊤}
pub use Rattle.std.specs.Str.{str_eq_ignore_ascii_case, str_to_ascii_lowercase}
pub use Rattle.table_rows.proofs.Ranges.{decimal_in-range, hex_in-range}
pub use Rattle.table_rows.proofs.Splits.{rest-whole}
pub use Rattle.table_rows.proofs.Texts.{Digits, all-append, all-map, decimal-digits, given, or-false}
pub use Rattle.table_rows.specs.Tables.{NoTwo}
pub use Rattle.table_rows.specs.Texts.{Text, is_name_byte}
unfoldable pub use Rattle.table_rows.specs.Texts.{decimal_in, hex_in, is_decimal, is_name, is_numeral}
pub use mir.Val.{bool_byte}
