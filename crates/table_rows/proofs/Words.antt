-- The words that the proofs of this crate share, passed on from one place. Declares nothing.
pub use Rattle.csv.proofs.ReadFacts.{rows-end, rows-more}
pub use Rattle.csv.specs.Machine.{Read, after_end, ends_at_end, ends_with, field_after, fields_after, in_field, is_byte, is_end, start_field}
pub use Rattle.csv.specs.Machine.{start_record, step}
unfoldable pub use Rattle.csv.specs.Machine.{next_record}
pub use Rattle.csv.specs.Reading.{ReadRecord, is_bom, records_next, took_first}
unfoldable pub use Rattle.csv.specs.Reading.{Reached, records_from, strip_bom}
pub use Rattle.csv.specs.Records.{fields_of}
unfoldable pub use Rattle.csv.specs.Records.{field_at}
pub use Rattle.csv.specs.declared.parser.Action.{Action}
pub use Rattle.csv.specs.declared.parser.Config.{Config}
pub use Rattle.csv.specs.declared.parser.State.{State}
pub use Rattle.csv.specs.declared.parser.Terminator.{Terminator}
pub use Rattle.csv.specs.declared.reader.Reader.{Reader}
pub use Rattle.std.proofs.Common.{Bool, Bor, List, None, Option, Some, [], ap, append-nil, append_assoc, ap₂, arith, cond, drop, false, get_or, inl}
pub use Rattle.std.proofs.Common.{length, length-append, length-drop, map, refl, subst, suc, sym, take, true, zero, ℕ, ◌*◌, ◌++◌, ◌+◌, ◌-◌, ◌<◌, ◌==◌}
pub use Rattle.std.proofs.Common.{◌^◌, ◌∙◌, ◌∷◌, ◌≡◌, ◌≤◌}
pub use Rattle.std.proofs.Math.Nat.{pow-le-pow_right}
pub use Rattle.std.proofs.lemmas.Bool.{and_from, and_parts, cond_both, le-leb, le-ltb, leb-true, lt-ltb, ltb-false, ltb-true, ne_eqb, or_parts}
pub use Rattle.std.proofs.lemmas.Fmt.{decimal_is_IsNumeral}
pub use Rattle.std.proofs.lemmas.Grind.{common_steps}
pub use Rattle.std.proofs.lemmas.Int.Digits.{digits_value-lt, digits_value_more}
pub use Rattle.std.proofs.lemmas.List.{drop_all, drop_more, reverse-append, reverse-reverse, take_all, take_more}
pub use Rattle.std.proofs.lemmas.List.Splits.{slice_split_first}
pub use Rattle.std.proofs.lemmas.Str.{IsUtf8-from_ascii}
pub use Rattle.std.proofs.lemmas.Str.Parse.{digit_from_value, digits_value-take-le}
pub use Rattle.std.specs.Char.{digit_value}
pub use Rattle.std.specs.List.{AllByRecursion, join_with_byte, list_all, list_any, onto_first, position_or_len, slice_split}
pub use Rattle.std.specs.Option.{option_map_or}
pub use Rattle.std.specs.Prelude.{Err, Ok, Result, is_some, nat_le, nat_lt, not, position, reverse, slice_get, ⊤, ◌&&◌}
pub use Rattle.std.specs.Result.{result_ok}
pub use Rattle.std.specs.Str.{IsAscii}
pub use Rattle.std.specs.Str.Parse.{AllDigits, IsNumeral, ParsesUnsigned, digits_value, without_leading_plus}
pub use Rattle.table_rows.specs.Reader.{IsAtRow, IsBetweenRows, ReadsRow, bytes_left, is_between, rows_from, rows_left, source}
pub use Rattle.table_rows.specs.Rows.{IsInner, IsPlainField, IsPlainRow, IsReadRow, table_config}
unfoldable pub use Rattle.table_rows.specs.Rows.{rows_of, rows_text}
pub use Rattle.table_rows.specs.Tables.{NoTwo, RefusesTable, TakesRow, fault_at}
unfoldable pub use Rattle.table_rows.specs.Tables.{first_fault}
pub use Rattle.table_rows.specs.Texts.{Text, is_blank, is_digit, is_empty, is_hex_digit, is_name_byte, is_printable, is_printable_byte}
unfoldable pub use Rattle.table_rows.specs.Texts.{decimal_in, hex_in, is_decimal, is_name, is_numeral, text_at, trimmed, without_front}
pub use Rattle.table_rows.specs.declared.fault.RowRefusal.{RowRefusal}
