-- The words that the proofs of this crate share, passed on from one place. Declares nothing.
pub use Rattle.papi_base.proofs.Steps.{get_middle, is_given, none_of, not_given, passed_over}
pub use Rattle.papi_base.specs.Numerals.{is_digit, is_empty}
unfoldable pub use Rattle.papi_base.specs.Numerals.{is_numeral}
pub use Rattle.papi_base.specs.declared.native.EventRef.{EventRef}
pub use Rattle.papi_base.specs.declared.native.Native.{Native}
pub use Rattle.postfix_rules.specs.Faults.{FormulaView, IsFault, IsFormula, Part, Pile, height_after, operand_cause, place_cause}
unfoldable pub use Rattle.postfix_rules.specs.Faults.{end_cause, fault_from, token_cause}
pub use Rattle.postfix_rules.specs.Infix.{Inside, IsInfix, Two, Written, need, tree_of, wording}
pub use Rattle.postfix_rules.specs.InfixFaults.{AreClear, HasCauseAt, IsEndFault, IsInfixFault, ReadsInfix, WritesTree, begins_factor, cause_at}
pub use Rattle.postfix_rules.specs.InfixFaults.{must_begin, open_after, open_at_end, place_of_operand}
unfoldable pub use Rattle.postfix_rules.specs.InfixFaults.{infix_cause}
pub use Rattle.postfix_rules.specs.InfixLaws.{FirstInfixFaults, FromOneInfix, SameTree}
pub use Rattle.postfix_rules.specs.InfixReading.{AnswersInfix, OrderView, ended_tokens, moved_by, operand_moved, operator_tokens, order_begun}
pub use Rattle.postfix_rules.specs.InfixReading.{order_cause, refused_at, sum_moved}
unfoldable pub use Rattle.postfix_rules.specs.InfixReading.{infix_end, infix_ended, infix_of, order_moved}
pub use Rattle.postfix_rules.specs.InfixTokens.{InfixPart, begins_digits, digits_of, in_infix, infix_parts, sign_part}
unfoldable pub use Rattle.postfix_rules.specs.InfixTokens.{infix_from}
pub use Rattle.postfix_rules.specs.Judged.{ReadsToken}
pub use Rattle.postfix_rules.specs.Laws.{EachIsAmong, EarlierStay, FormulasSpell, NoneTwice, OneMoreJoins, SameEvents, SameNatives, TreesValued}
pub use Rattle.postfix_rules.specs.Presets.{Book, natives_after, natives_of, natives_of_event}
pub use Rattle.postfix_rules.specs.Reading.{FirstFaults, FromOne, IsTextFault, IsTreeText, ReadsFormula, RefusedFormula, SameTokens, WrittenBytes}
pub use Rattle.postfix_rules.specs.Reading.{WrittenRead, tokens_among, unless_fault}
unfoldable pub use Rattle.postfix_rules.specs.Reading.{formula_of}
pub use Rattle.postfix_rules.specs.Rules.{OfOneComponent, first_less_others, rule_value}
pub use Rattle.postfix_rules.specs.Sameness.{among, joined_by, same_bool, same_event, same_native}
pub use Rattle.postfix_rules.specs.Stack.{pile, stepped}
unfoldable pub use Rattle.postfix_rules.specs.Stack.{stack_from}
pub use Rattle.postfix_rules.specs.Tokens.{constant_part, is_bar, is_formula_byte, native_part, operator_of, token_text}
unfoldable pub use Rattle.postfix_rules.specs.Tokens.{formula_text, part_of, parts_of, pieces_of, without_blank_last}
pub use Rattle.postfix_rules.specs.Trees.{Constant, Count, Node, Tree}
unfoldable pub use Rattle.postfix_rules.specs.Trees.{pile_from, pile_text, spelling}
pub use Rattle.postfix_rules.specs.Values.{applied, formula_value, top_value, wrapped}
unfoldable pub use Rattle.postfix_rules.specs.Values.{divided, signed_sum, tree_value}
pub use Rattle.postfix_rules.specs.declared.fault.FormulaCause.{FormulaCause}
pub use Rattle.postfix_rules.specs.declared.fault.FormulaFault.{FormulaFault}
pub use Rattle.postfix_rules.specs.declared.fault.FormulaFault.TheVariants.{At, Memory}
pub use Rattle.postfix_rules.specs.declared.infix_token.InfixToken.{InfixToken}
pub use Rattle.postfix_rules.specs.declared.postfix_order.Waiting.{Waiting}
pub use Rattle.postfix_rules.specs.declared.token.Operator.{Operator}
pub use Rattle.postfix_rules.specs.declared.token.Token.{Token}
pub use Rattle.std.proofs.Common.{Bool, FitsSigned, List, None, Option, Some, [], ap, append-nil, append_assoc, ap₂, arith, cond, div-le_self, drop}
pub use Rattle.std.proofs.Common.{false, get_or, inl, inr, int_div, length, map, mod-eq_of_lt, nat_le, nat_lt, neg_ℤ, negsuc, of_z, pos, refl}
pub use Rattle.std.proofs.Common.{reverse, rules, slice_get, slice_index, slice_index_or, subst, suc, sym, take, tests, to_z, to_z-of_z, true}
pub use Rattle.std.proofs.Common.{unsigned_abs, w64, zero, ℕ, ℤ, ◌%◌, ◌&&◌, ◌++◌, ◌+ℤ◌, ◌+◌, ◌-ℤ◌, ◌-◌, ◌/◌, ◌<◌, ◌==◌, ◌^◌, ◌∙◌, ◌∷◌, ◌≡◌, ◌≤◌, ◌⊎◌}
pub use Rattle.std.proofs.Math.Bool.{and_assoc}
pub use Rattle.std.proofs.Math.ListN.{set}
pub use Rattle.std.proofs.Math.Seq.{take-append_seam, take-length}
pub use Rattle.std.proofs.lemmas.Bool.{and_from, and_left, and_right, cases_lt, cases_order, cond_both, eq-eqb, eqb-true, le-leb, le-ltb, lt-ltb}
pub use Rattle.std.proofs.lemmas.Bool.{ltb-false, ltb-true, ne_eqb, or_left, or_right}
pub use Rattle.std.proofs.lemmas.Bool.Decides.{nat_tests}
pub use Rattle.std.proofs.lemmas.Int.{int_wrap-add_left, int_wrap-sub_right, int_wrap_fits, ints, wraps}
pub use Rattle.std.proofs.lemmas.List.{drop_all, drop_more, length-append, map-append, nil_from_length, reverse-append, take_all, take_at, take_more}
pub use Rattle.std.proofs.lemmas.List.{take_more_set}
pub use Rattle.std.proofs.lemmas.List.Folds.{list_all-append, list_any-append}
pub use Rattle.std.proofs.lemmas.List.Splits.{length-slice_split}
pub use Rattle.std.proofs.lemmas.List.Sums.{fold-append, prefix_len-le-length, prefix_len_is, take_while-cons}
pub use Rattle.std.proofs.lemmas.Option.{slice_get_past, slice_get_within}
pub use Rattle.std.proofs.lemmas.Result.{IfOk-weaker}
pub use Rattle.std.specs.Int.{int_wrapping_div}
unfoldable pub use Rattle.std.specs.Int.{int_wrap}
pub use Rattle.std.specs.List.{AllByRecursion, count_by, list_all, prefix_len, slice_split, take_while}
pub use Rattle.std.specs.Option.{option_map_or}
pub use Rattle.std.specs.Prelude.{Err, IfErr, IfOk, IsTrue, Ok, Result, if◌then◌else◌, is_some, not, string_bytes, ⊤, ◌↔◌}
pub use Rattle.std.specs.Str.Parse.{digits_value}
pub use Rattle.table_rows.proofs.Splits.{rest-whole, split-cut, split-none}
pub use Rattle.table_rows.proofs.Texts.{Digits, all-map, decimal-digits, decimal-numeral, decimal-value, trimmed-plain}
pub use Rattle.table_rows.specs.Texts.{Text, is_blank}
unfoldable pub use Rattle.table_rows.specs.Texts.{trimmed, without_front}
pub use mathlib.Core.Bool.{beq}
