-- The words that the proofs of this crate share, passed on from one place. Declares nothing.
pub use Rattle.component_table.specs.Books.{are_together, book_of, derived_by, derived_from, derived_if, derived_of, is_available, kept_if, rows_in}
pub use Rattle.component_table.specs.Books.{rule_of, with_first}
unfoldable pub use Rattle.component_table.specs.Books.{available_from, events_from, natives_named}
pub use Rattle.component_table.specs.Catalogs.{CatalogView, IsCatalog, code_of_row, row_count}
pub use Rattle.component_table.specs.Codes.{code_in}
unfoldable pub use Rattle.component_table.specs.Codes.{row_codes}
pub use Rattle.component_table.specs.Laws.{Available, ExactlyAvailable, named}
pub use Rattle.event_tables.specs.Tables.{ComponentText, shape_of}
pub use Rattle.name_encoder.specs.Names.{FitsShape, names}
pub use Rattle.name_encoder.specs.declared.fault.NameFault.{NameFault}
pub use Rattle.papi_base.specs.contracts.native.NativePartialEq.TheImpl.{eq-value}
pub use Rattle.papi_base.specs.declared.native.Native.{Native}
pub use Rattle.postfix_rules.proofs.AllFields.{natives_same}
pub use Rattle.postfix_rules.proofs.Equal.{native_self}
pub use Rattle.postfix_rules.specs.Faults.{FormulaView}
pub use Rattle.postfix_rules.specs.Fitting.{BookFits, Fits, Widths}
pub use Rattle.postfix_rules.specs.NativeCodes.{native_code}
pub use Rattle.postfix_rules.specs.Presets.{Book, entry}
pub use Rattle.postfix_rules.specs.Rules.{DerivedView, IsDerived, TakesCounts}
pub use Rattle.postfix_rules.specs.Sameness.{among, joined_by, same_native}
pub use Rattle.postfix_rules.specs.declared.rule.Rule.{Rule}
pub use Rattle.preset_csv.specs.Defs.{DefView, FitsKind, IsDef}
pub use Rattle.preset_csv.specs.Tables.{IsTable, TableView, is_field}
pub use Rattle.preset_csv.specs.declared.entry.Entry.{Entry}
pub use Rattle.preset_csv.specs.declared.kind.Kind.{Kind}
pub use Rattle.preset_csv.specs.declared.symbols.TheConstants.{PRESETS}
pub use Rattle.std.proofs.Common.{All, Bool, Err, IfSome, List, None, Ok, Option, Result, Some, [], ap, append_assoc, ap₂, arith, cond, drop, eqb}
pub use Rattle.std.proofs.Common.{false, get_or, if◌then◌else◌, is_some, length, length-append, length-set, map, map-id, option_map, refl, rules, set}
pub use Rattle.std.proofs.Common.{slice_get, string_bytes, subst, suc, sym, take, tests, true, unwrap_or, zero, ℕ, ◌++◌, ◌+◌, ◌<◌, ◌==◌, ◌∙◌, ◌∷◌}
pub use Rattle.std.proofs.Common.{◌≡◌, ◌≤◌}
pub use Rattle.std.proofs.Math.Dec.{ltb}
pub use Rattle.std.proofs.lemmas.Bool.{cond_both, eq-eqb, eqb-true, false_from_ne_true, le-ltb, lt-ltb, ne_eqb}
pub use Rattle.std.proofs.lemmas.Iterator.{YieldsList-from_slice}
pub use Rattle.std.proofs.lemmas.Iterator.Adapters.{YieldsList-from_vec}
pub use Rattle.std.proofs.lemmas.Iterator.Consumers.{YieldsList-end}
pub use Rattle.std.proofs.lemmas.Iterator.Search.{position_from_yields_List}
pub use Rattle.std.proofs.lemmas.List.{append-nil, drop-set-lt, drop_all, drop_more, get_or-map, length-map, length_push, map-append, take_all}
pub use Rattle.std.proofs.lemmas.List.{take_more, take_more_set}
pub use Rattle.std.proofs.lemmas.List.Elements.{All-append}
pub use Rattle.std.proofs.lemmas.List.Folds.{position_or_len_push}
pub use Rattle.std.proofs.lemmas.List.FromFn.{get_or-map-range_with_len, length-map-range_with_len}
pub use Rattle.std.proofs.lemmas.List.Sums.{AllPass-from_list_all, list_all-from_AllPass, position_or_len_is}
pub use Rattle.std.proofs.lemmas.Option.{cond_some, slice_get_past, unwrap_or-slice_get}
pub use Rattle.std.specs.List.{AllByRecursion, list_any, position_or_len}
pub use Rattle.std.specs.Option.{ForSome}
pub use Rattle.std.specs.Prelude.{not, position}
pub use Rattle.std.specs.Str.{bytes_eq}
pub use Rattle.table_rows.specs.Texts.{Text}
pub use Rattle.user_events.proofs.Putting.{position-map}
pub use Rattle.user_events.specs.Events.{Distinct, EventView, ExtendedView, IsEvent, IsExtended, event_view, names_of}
pub use Rattle.user_events.specs.Names.{is_event_name}
pub use Rattle.user_events.specs.declared.event.UserEvent.{UserEvent}
