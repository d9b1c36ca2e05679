-- The words that the proofs of this crate share, passed on from one place. Declares nothing.
pub use Rattle.memchr.specs.Find.{IsFirstByte, is_byte}
pub use Rattle.papi_base.specs.Numerals.{flag_bit, is_digit, is_empty, is_hex_digit}
unfoldable pub use Rattle.papi_base.specs.Numerals.{decimal_in, hex_in, is_decimal, is_numeral}
pub use Rattle.papi_base.specs.Outside.{Gives, Tape, answer_at, tape_after}
pub use Rattle.papi_base.specs.Streams.{Coming, Fault}
pub use Rattle.papi_base.specs.declared.limits.TheConstants.{LAST_STAMP}
pub use Rattle.papi_base.specs.declared.occurrence.LineCause.{LineCause}
pub use Rattle.papi_base.specs.declared.occurrence.Occ.{Occ}
pub use Rattle.papi_base.specs.declared.outside.Ending.{Ending}
pub use Rattle.papi_base.specs.declared.outside.Ending.TheVariants.{End}
pub use Rattle.papi_base.specs.declared.outside.Failed.{Failed}
pub use Rattle.std.proofs.Common.{Bool, Err, IfNone, IfSome, List, None, Ok, Option, Result, Some, [], add-one, ap, append_assoc, ap₂, arith, bit_and}
pub use Rattle.std.proofs.Common.{bit_or, bytes_eq, codes, drop, eq-eqb, false, get_or, inl, inr, length, length-append, length-drop, map, min}
pub use Rattle.std.proofs.Common.{nat_le, nat_lt, not, refl, replicate, rules, slice_index, subst, suc, sym, take, true, w64, w8, zero, ℕ, ◌%◌, ◌&&◌}
pub use Rattle.std.proofs.Common.{◌*◌, ◌++◌, ◌+◌, ◌-◌, ◌/◌, ◌<◌, ◌==◌, ◌^◌, ◌||◌, ◌∙◌, ◌∷◌, ◌≡◌, ◌≢◌, ◌≤◌, ◌⊎◌}
pub use Rattle.std.proofs.Math.Nat.{div-div-eq-div-mul, pow-le-pow_right, pow-suc}
pub use Rattle.std.proofs.Math.Seq.{drop-cons, paste, take-add}
pub use Rattle.std.proofs.lemmas.Bool.{and_parts, cases_eq, cases_lt, eqb-true, le-leb, le-ltb, leb-false, leb-true, lt-leb, lt-ltb, ltb-false}
pub use Rattle.std.proofs.lemmas.Bool.{ltb-true, ne_eqb}
pub use Rattle.std.proofs.lemmas.Bool.Decides.{nat_tests}
pub use Rattle.std.proofs.lemmas.Int.Digits.{digits_value_more}
pub use Rattle.std.proofs.lemmas.List.{append-nil, drop-drop, drop-take, drop_all, drop_at, get_or-take, length-map, length-take-le, take-append-drop}
pub use Rattle.std.proofs.lemmas.List.{take-take, take_all, take_rest}
pub use Rattle.std.proofs.lemmas.List.Edits.{take-paste}
pub use Rattle.std.proofs.lemmas.List.Folds.{list_all-append, list_all_more}
pub use Rattle.std.proofs.lemmas.List.Splits.{length-slice_split}
pub use Rattle.std.proofs.lemmas.List.Sums.{prefix_len-le-length}
pub use Rattle.std.proofs.lemmas.Nat.{and_mask, le_or_l, le_or_r}
pub use Rattle.std.proofs.lemmas.Simd.{bitmask_splat, leading_from_mask_l, length-chunk, mask_l-mod, run_in_chunk_fails, run_in_chunk_stops}
pub use Rattle.std.proofs.lemmas.Simd.{tops_compared, trailing_mask_l, zip2_splat_left}
pub use Rattle.std.proofs.lemmas.Slice.{take-put_mid_below}
pub use Rattle.std.specs.Char.{digit_value}
pub use Rattle.std.specs.Int.{from_be_bytes}
pub use Rattle.std.specs.List.{AllByRecursion, count_by, list_all, onto_first, prefix_len, slice_split}
pub use Rattle.std.specs.Option.{option_and_then, option_map, option_map_or}
pub use Rattle.std.specs.Prelude.{IfOk, MatchResult, cond, if◌then◌else◌, is_some, unwrap_or}
pub use Rattle.std.specs.Result.{result_unwrap_or}
pub use Rattle.std.specs.Simd.Lanes.{digits_l, mask_l, number_l, sel_l, top, zip2}
pub use Rattle.std.specs.Str.Parse.{digits_value, digits_value_after}
pub use Rattle.stream_reader.specs.ByteTables.{decimal_or_256, digit_or_256, mode_or_256}
pub use Rattle.stream_reader.specs.CommonLines.{BeginsSkipped, BeginsWith, BeginsWithComponent, EndsAt, HasHeadSpaces, HoldsLine, IsAmount}
pub use Rattle.stream_reader.specs.CommonLines.{IsAmountOf, IsDigits, IsFront, IsHead, IsInner, IsStamp, is_inner, is_plain, occ_with}
pub use Rattle.stream_reader.specs.Digits.{HasValue, IsHexadecimal, is_value, piece}
unfoldable pub use Rattle.stream_reader.specs.Digits.{HaveValues, number_after}
pub use Rattle.stream_reader.specs.Fields.{digits_on, ends_with, has_form, hex_on, is_one_byte, stamp_after}
unfoldable pub use Rattle.stream_reader.specs.Fields.{after_field, event_occurrence_on, first_field, number_on, occurrence_on, tail_on}
pub use Rattle.stream_reader.specs.Inside.{FindsNewline, HasEnded, IsKept, IsReader, Passes, Refills, TakesLine, Turns, answer_of, left_of, line_at}
pub use Rattle.stream_reader.specs.Inside.{line_taken}
pub use Rattle.stream_reader.specs.Judged.{field, fields_of, given, has_fields, is_above, is_next_stamp, is_skipped, line_text, occurrence_judged}
pub use Rattle.stream_reader.specs.Judged.{stamp_of}
unfoldable pub use Rattle.stream_reader.specs.Judged.{fields_judged, judged, mode_of, occ_of, text_judged, without_return}
pub use Rattle.stream_reader.specs.Lines.{IsOneLine, Line, is_last_line}
unfoldable pub use Rattle.stream_reader.specs.Lines.{lines_of, tape_lines}
pub use Rattle.stream_reader.specs.Occurs.{IsStart, after, end_mark, is_bad, joined, least_stamp, line_passed, occurs_on}
unfoldable pub use Rattle.stream_reader.specs.Occurs.{occurs_from, occurs_of}
pub use Rattle.stream_reader.specs.Reader.{Closes, Gave, GaveNothing, GoesOn, NextGives, ReaderView, SourceView, Takes, at_mark, before_rest}
pub use Rattle.stream_reader.specs.Reader.{faults_of, follows, is_last, new_view, nothing, tape_of}
unfoldable pub use Rattle.stream_reader.specs.Reader.{answers_from, comes, coming, has_answer}
pub use Rattle.stream_reader.specs.declared.byte_tables.TheConstants.{DECIMALS, DIGITS, MODES}
pub use Rattle.stream_reader.specs.declared.common_line.CommonLine.{CommonLine}
pub use Rattle.stream_reader.specs.declared.common_line.Front.{Front}
pub use Rattle.stream_reader.specs.declared.common_line.Head.{Head}
pub use Rattle.stream_reader.specs.declared.field.Field.{Field}
pub use Rattle.stream_reader.specs.declared.line.Judgement.{Judgement}
pub use Rattle.stream_reader.specs.declared.line.Judgement.TheVariants.{Bad, Occurs, Skipped, Version}
pub use Rattle.stream_reader.specs.declared.line.LineStart.{LineStart}
pub use Rattle.stream_reader.specs.declared.next.Next.{Next}
pub use borrow.Rule.Slice.PartMut.{mid_of, put_mid}
pub use lib.Count.{count_trailing_zeros}
pub use lib.Lanes.{Each1, chunk}
pub use mir.Val.{bool_byte}
