-- The words that the proofs of this crate share, passed on from one place. Declares nothing.
pub use Rattle.csv.specs.Records.{fields_of}
pub use Rattle.papi_base.proofs.Steps.{is_given, not_given}
pub use Rattle.postfix_rules.specs.Faults.{FormulaView, IsFormula, fault_from}
pub use Rattle.postfix_rules.specs.InfixFaults.{IsInfixFault}
pub use Rattle.postfix_rules.specs.InfixLaws.{FirstInfixFaults, FromOneInfix, SameTree}
pub use Rattle.postfix_rules.specs.InfixReading.{OrderView, ended_tokens, moved_by, order_begun, order_cause, refused_at}
unfoldable pub use Rattle.postfix_rules.specs.InfixReading.{infix_end, infix_ended, infix_of}
pub use Rattle.postfix_rules.specs.InfixTokens.{InfixPart, infix_parts}
pub use Rattle.postfix_rules.specs.Reading.{RefusedFormula, formula_of}
pub use Rattle.postfix_rules.specs.declared.fault.FormulaCause.{FormulaCause}
pub use Rattle.preset_csv.proofs.Back.{HasEntry, Stands, all-held, both, first-stands, no-cause, presets-back, rows-lines, rows-plain, rows_back}
pub use Rattle.preset_csv.proofs.Back.{stands-more, table-taken, written-back}
pub use Rattle.preset_csv.proofs.BackWhole.{Says, Spares, bad-faultless, no-entries}
pub use Rattle.preset_csv.proofs.Fields.{IsGood, IsInk, field-good, ink-good, symbols-good, word-good}
pub use Rattle.preset_csv.proofs.Judged.{InfixKept, Keeps, formula-kept, judged-kept}
pub use Rattle.preset_csv.proofs.NativesKept.{symbol-there}
pub use Rattle.preset_csv.proofs.OneMore.{entry-append, map-same, read-more}
pub use Rattle.preset_csv.proofs.RowBack.{cpu-begins, cpu-line, def-good, def-judged, def-line, def_row, first-good, good-plain, preset-line}
pub use Rattle.preset_csv.proofs.RowBack.{rest-good, rest-judged, rest-line, rest_row}
pub use Rattle.preset_csv.proofs.SymbolRows.{all-test, same-text, turned}
pub use Rattle.preset_csv.proofs.TableKept.{length-presets, lines-plain}
pub use Rattle.preset_csv.proofs.WrittenParts.{rows-append}
pub use Rattle.preset_csv.specs.Defs.{DefView, FitsKind, IsDef}
pub use Rattle.preset_csv.specs.Entries.{def_entry, formula_entry, judged, judged_as, kept_entry, kept_natives, typed_entry, uncomputed}
unfoldable pub use Rattle.preset_csv.specs.Entries.{judged_by}
pub use Rattle.preset_csv.specs.Lines.{Derivation, Line, cpu, event, gives, other, preset}
unfoldable pub use Rattle.preset_csv.specs.Lines.{derivation_of}
pub use Rattle.preset_csv.specs.Presets.{cause_if, entry_or, has_cpu, holds, is_read, preset_read, presets_read, rows_if}
unfoldable pub use Rattle.preset_csv.specs.Presets.{entry_of, preset_fault, presets, presets_in, read_from}
pub use Rattle.preset_csv.specs.Steps.{Judges, group_at}
pub use Rattle.preset_csv.specs.Tables.{IsEntry, IsTable, TableView, is_field, symbols}
pub use Rattle.preset_csv.specs.Written.{def_fields}
unfoldable pub use Rattle.preset_csv.specs.Written.{rows_of_entries, table_text}
pub use Rattle.preset_csv.specs.declared.entry.Entry.{Entry}
pub use Rattle.preset_csv.specs.declared.fault.PresetCause.{PresetCause}
pub use Rattle.preset_csv.specs.declared.fault.PresetCause.TheVariants.{BadFormula}
pub use Rattle.preset_csv.specs.declared.group.Group.{Group}
pub use Rattle.preset_csv.specs.declared.kind.DerivedType.{DerivedType}
pub use Rattle.preset_csv.specs.declared.symbols.TheConstants.{PRESETS}
pub use Rattle.std.proofs.Common.{Bool, Err, List, None, Ok, Option, Result, Some, [], ap, append-nil, append_assoc, ap₂, arith, cond, false, fold}
pub use Rattle.std.proofs.Common.{get_or, length, map, not, refl, rules, set, subst, suc, sym, take, tests, true, zero, ℕ, ◌++◌, ◌+◌, ◌-◌, ◌<◌, ◌∙◌}
pub use Rattle.std.proofs.Common.{◌∷◌, ◌≡◌, ◌≤◌}
pub use Rattle.std.proofs.lemmas.Bool.{and_from, and_parts, cond_both, ltb-false, or_parts, or_right}
pub use Rattle.std.proofs.lemmas.Iterator.{YieldsList-from_slice}
pub use Rattle.std.proofs.lemmas.Iterator.Search.{position_from_yields_List}
pub use Rattle.std.proofs.lemmas.List.{length-append, length-map, map-append, take_all, take_more}
pub use Rattle.std.proofs.lemmas.List.Quantifiers.{position-Some}
pub use Rattle.std.proofs.lemmas.List.Sums.{fold-append}
pub use Rattle.std.proofs.lemmas.Result.{err_from_is_err_and}
pub use Rattle.std.proofs.lemmas.Slice.Eq.{bytes_eq-Decides}
pub use Rattle.std.specs.Bool.{Decides}
pub use Rattle.std.specs.List.{AllByRecursion, list_all, list_any, position_or_len}
pub use Rattle.std.specs.Option.{option_map_or}
pub use Rattle.std.specs.Prelude.{codes, if◌then◌else◌, nat_le, position, string_bytes, ⊤, ◌&&◌, ◌==◌, ◌||◌}
pub use Rattle.std.specs.Str.{bytes_eq, str_eq_ignore_ascii_case}
pub use Rattle.table_rows.proofs.RowsBack.{rows-back}
pub use Rattle.table_rows.proofs.TablesRead.{takes-as}
pub use Rattle.table_rows.proofs.Texts.{all-append, all-map, no_two-more}
pub use Rattle.table_rows.specs.Rows.{IsPlainRow, IsReadRow, rows_of}
unfoldable pub use Rattle.table_rows.specs.Rows.{rows_text}
pub use Rattle.table_rows.specs.Tables.{RefusesRow, TakesRow}
unfoldable pub use Rattle.table_rows.specs.Tables.{first_fault}
pub use Rattle.table_rows.specs.Texts.{Text, is_empty, is_printable, is_printable_byte}
unfoldable pub use Rattle.table_rows.specs.Texts.{text_at}
pub use Rattle.table_rows.specs.declared.fault.RowRefusal.{RowRefusal}
pub use Rattle.user_events.specs.Alike.{IsOfPresets, IsOrdinary, ReadsAsPresets}
pub use Rattle.user_events.specs.Entries.{event_judged, has_rate, infix_entry}
pub use Rattle.user_events.specs.Events.{Distinct, EventView, ExtendedView, IsEvent, IsExtended, IsPresent, event_view, names_of}
pub use Rattle.user_events.specs.Grammar.{EntriesAreByGrammar}
pub use Rattle.user_events.specs.Lines.{lines_of}
unfoldable pub use Rattle.user_events.specs.Lines.{line_of}
pub use Rattle.user_events.specs.Names.{is_event_byte}
unfoldable pub use Rattle.user_events.specs.Names.{is_event_name}
pub use Rattle.user_events.specs.Reading.{GivePresetsAndEvents, IsKept, taking}
pub use Rattle.user_events.specs.Rows.{among, event_of, event_read, events_of, events_read, is_too_many, limited, line_cause, name_added, named_entry}
unfoldable pub use Rattle.user_events.specs.Rows.{extended_fault, extended_in, names_in}
pub use Rattle.user_events.specs.Steps.{IsMore, IsOverLimit, Taking, cause_more, event_cause, events_more, events_with, put_event, put_judged}
pub use Rattle.user_events.specs.Written.{ReadsBack, named_rows}
unfoldable pub use Rattle.user_events.specs.Written.{event_rows, extended_text}
pub use Rattle.user_events.specs.declared.event.TheConstants.{MOST_USER_EVENTS}
pub use Rattle.user_events.specs.declared.event.UserEvent.{UserEvent}
