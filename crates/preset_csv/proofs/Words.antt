-- The words that the proofs of this crate share, passed on from one place. Declares nothing.
pub use Rattle.csv.specs.Machine.{Read, after_end, ends_with, field_after, fields_after, in_field, is_end}
unfoldable pub use Rattle.csv.specs.Machine.{next_record}
pub use Rattle.csv.specs.Reading.{records_next}
unfoldable pub use Rattle.csv.specs.Reading.{records_from, strip_bom}
pub use Rattle.csv.specs.Records.{fields_of}
pub use Rattle.csv.specs.declared.parser.Action.{Action}
pub use Rattle.csv.specs.declared.parser.State.{State}
pub use Rattle.papi_base.proofs.Steps.{is_given, not_given}
pub use Rattle.papi_base.specs.Numerals.{is_digit}
pub use Rattle.postfix_rules.proofs.Refusals.{same_tokens}
pub use Rattle.postfix_rules.proofs.Written.{written_bytes, written_read}
pub use Rattle.postfix_rules.specs.Faults.{FormulaView, IsFormula}
pub use Rattle.postfix_rules.specs.Reading.{RefusedFormula, formula_of}
pub use Rattle.postfix_rules.specs.Tokens.{formula_text, is_formula_byte}
pub use Rattle.postfix_rules.specs.declared.derived.TheConstants.{MOST_NATIVES}
pub use Rattle.preset_csv.specs.Defs.{AreNatives, DefView, FitsKind, IsDef, IsNativeText, ends_natives}
pub use Rattle.preset_csv.specs.Entries.{InfixJudging, def_entry, formula_entry, judged, judged_as, kept_entry, kept_natives, typed_entry, uncomputed}
unfoldable pub use Rattle.preset_csv.specs.Entries.{has_rate, judged_by}
pub use Rattle.preset_csv.specs.Kinds.{has_formula, kind_text}
unfoldable pub use Rattle.preset_csv.specs.Kinds.{type_of}
pub use Rattle.preset_csv.specs.Lines.{Derivation, Line, Word, cpu, derivation, event, gives, lines_of, natives_from, other, preset}
unfoldable pub use Rattle.preset_csv.specs.Lines.{derivation_of, line_of, natives_in}
pub use Rattle.preset_csv.specs.Presets.{Judging, entry_or, holds, is_read, line_cause, preset_read, presets_read, rows_if}
unfoldable pub use Rattle.preset_csv.specs.Presets.{cuts_off, entry_of, group, has_cpu, preset_fault, presets, presets_in, read_from}
pub use Rattle.preset_csv.specs.Reading.{GivePresets}
pub use Rattle.preset_csv.specs.Steps.{IsMore, Judges, after_commas, cause_more, entries_more, entries_with, group_at, group_more, placed, read_cause}
unfoldable pub use Rattle.preset_csv.specs.Steps.{is_closed}
pub use Rattle.preset_csv.specs.Symbols.{PresetRow}
unfoldable pub use Rattle.preset_csv.specs.Symbols.{preset_rows, row_of, symbol_at}
pub use Rattle.preset_csv.specs.Tables.{IsEntry, IsMissing, IsTable, TableView, is_field_byte}
unfoldable pub use Rattle.preset_csv.specs.Tables.{is_field, symbols}
pub use Rattle.preset_csv.specs.Written.{ReadsBack, def_fields, entry_rows, formula_fields, rows_of_entry}
unfoldable pub use Rattle.preset_csv.specs.Written.{rows_of_entries, table_text}
pub use Rattle.preset_csv.specs.declared.entry.Entry.{Entry}
pub use Rattle.preset_csv.specs.declared.fault.PresetCause.{PresetCause}
pub use Rattle.preset_csv.specs.declared.group.Group.{Group}
pub use Rattle.preset_csv.specs.declared.kind.DerivedType.{DerivedType}
pub use Rattle.preset_csv.specs.declared.kind.Kind.{Kind}
pub use Rattle.preset_csv.specs.declared.symbols.TheConstants.{PRESETS}
pub use Rattle.std.proofs.Common.{Bool, Err, IfOk, List, None, Ok, Option, Result, Some, [], ap, append-nil, append_assoc, ap₂, arith, codes, cond}
pub use Rattle.std.proofs.Common.{drop, false, fold, get_or, le-ltb, length, lt-ltb, map, nat_le, nat_lt, not, refl, replicate, rules, set}
pub use Rattle.std.proofs.Common.{string_bytes, subst, suc, sym, take, tests, true, zero, ℕ, ◌++◌, ◌+◌, ◌<◌, ◌==◌, ◌^◌, ◌∙◌, ◌∷◌, ◌≡◌, ◌≤◌}
pub use Rattle.std.proofs.lemmas.Bool.{and_from, and_parts, cond_both, eqb-true, false_from_ne_true, ltb-false, ltb-true, not-true, or_right}
pub use Rattle.std.proofs.lemmas.Iterator.Search.{any_from_yields_List}
pub use Rattle.std.proofs.lemmas.Iterator.Splits.{YieldsList-from_slice_split}
pub use Rattle.std.proofs.lemmas.List.{drop_all, drop_more, length-append, length-map, map-append, take-append-le, take_all, take_more}
pub use Rattle.std.proofs.lemmas.List.Folds.{list_all-append, list_any-append}
pub use Rattle.std.proofs.lemmas.List.Sums.{fold-append, position_or_len_is}
pub use Rattle.std.proofs.lemmas.Option.{slice_get-get_or}
pub use Rattle.std.proofs.lemmas.Result.{IfOk-weaker, MatchResult-weaker, err_from_is_err_and}
pub use Rattle.std.proofs.lemmas.Slice.Eq.{bytes_eq-Decides}
pub use Rattle.std.specs.Bool.{Decides}
pub use Rattle.std.specs.List.{AllByRecursion, join_with_byte, list_all, list_any, onto_first, position_or_len, slice_split}
pub use Rattle.std.specs.Option.{option_map_or}
pub use Rattle.std.specs.Prelude.{if◌then◌else◌, is_some, slice_get, unwrap_or, ⊤, ◌&&◌, ◌||◌}
pub use Rattle.std.specs.Str.{bytes_eq, str_eq_ignore_ascii_case}
pub use Rattle.table_rows.proofs.PlainFields.{rows-plain}
pub use Rattle.table_rows.proofs.RowsBack.{rows-back}
pub use Rattle.table_rows.proofs.TablesRead.{takes-as}
pub use Rattle.table_rows.proofs.Texts.{all-append, all-map, or-false, trimmed-all, trimmed-once, trimmed-plain}
pub use Rattle.table_rows.specs.Rows.{BeginsPlain, IsInner, IsPlainField, IsPlainRow, IsReadRow, table_config}
unfoldable pub use Rattle.table_rows.specs.Rows.{rows_of, rows_text}
pub use Rattle.table_rows.specs.Tables.{NoTwo, RefusesRow, TakesRow}
unfoldable pub use Rattle.table_rows.specs.Tables.{first_fault}
pub use Rattle.table_rows.specs.Texts.{Text, is_blank, is_empty, is_printable, trimmed}
unfoldable pub use Rattle.table_rows.specs.Texts.{text_at}
pub use Rattle.table_rows.specs.declared.fault.RowRefusal.{RowRefusal}
