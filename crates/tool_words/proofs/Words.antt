-- The words that the proofs of this crate share, passed on from one place. Declares nothing.
unfoldable pub use Rattle.clap.proofs.OnLiterals.{clap_on_literals}
pub use Rattle.clap.proofs.WalkLemmas.{both, first_value-rows, one_text-rows, raw_values-rows}
pub use Rattle.clap.specs.Built.{AddsArg, AddsInTurn}
pub use Rattle.clap.specs.Kinds.{IsAmong, Kinds}
pub use Rattle.clap.specs.Matches.{ReadsOne}
pub use Rattle.clap.specs.ValueTests.{is_numeral}
pub use Rattle.clap.specs.Walk.{is_empty, is_simple_arg}
pub use Rattle.clap.specs.Words.{App, Row, Rule, Text, app_of, fault_of, found_of, is_simple, is_simple_and_free, matches_of, one_text, rows_of}
pub use Rattle.clap.specs.Words.{rule_of, with_rule}
pub use Rattle.clap.specs.declared.builder.arg.Arg.{Arg}
pub use Rattle.clap.specs.declared.builder.command.Command.{Command}
pub use Rattle.clap.specs.declared.error.kind.ErrorKind.{ErrorKind}
pub use Rattle.std.proofs.Common.{Bool, Err, List, None, Ok, Option, Result, Some, [], ap, append-nil, append_assoc, arith, codes, drop, false, inl}
pub use Rattle.std.proofs.Common.{inr, is_some, length, lt-ltb, ltb-true, map, nat_lt, not, refl, rules, subst, suc, sym, take, true, zero, ℕ, ◌&&◌}
pub use Rattle.std.proofs.Common.{◌++◌, ◌<◌, ◌==◌, ◌^◌, ◌∙◌, ◌∷◌, ◌≡◌, ◌≤◌, ◌⊎◌}
pub use Rattle.std.proofs.lemmas.Iterator.Consumers.{map_from_collect}
pub use Rattle.std.proofs.lemmas.Iterator.Splits.{YieldsList-from_str_split}
pub use Rattle.std.proofs.lemmas.List.{length-map}
pub use Rattle.std.proofs.lemmas.List.Splits.{length-slice_split}
pub use Rattle.std.proofs.lemmas.Result.{IfOk-weaker}
pub use Rattle.std.specs.Char.{digit_value}
pub use Rattle.std.specs.List.{list_all}
pub use Rattle.std.specs.Prelude.{option_and_then, string_bytes}
pub use Rattle.std.specs.Str.Parse.{AllDigits, ExplainsUnsignedError, HasUnsignedDigitsIfOk, ParsesUnsigned, digits_value, without_leading_plus}
unfoldable pub use Rattle.tool_words.specs.Arguments.{rule}
unfoldable pub use Rattle.tool_words.specs.AvailForm.{avail_form}
unfoldable pub use Rattle.tool_words.specs.ChooserForm.{chooser_form}
unfoldable pub use Rattle.tool_words.specs.DecodeForm.{decode_form}
unfoldable pub use Rattle.tool_words.specs.EncodeForm.{encode_form}
pub use Rattle.tool_words.specs.EventList.{is_event}
unfoldable pub use Rattle.tool_words.specs.EventList.{parts_of}
pub use Rattle.tool_words.specs.Form.{form}
unfoldable pub use Rattle.tool_words.specs.NativeAvailForm.{native_avail_form}
pub use Rattle.tool_words.specs.Numbers.{unsigned_of}
unfoldable pub use Rattle.tool_words.specs.Presets.{is_cpu}
unfoldable pub use Rattle.tool_words.specs.ProfilForm.{profil_form}
unfoldable pub use Rattle.tool_words.specs.RegionsForm.{regions_form}
unfoldable pub use Rattle.tool_words.specs.RunForm.{run_form}
unfoldable pub use Rattle.tool_words.specs.ScriptForm.{script_words_in}
unfoldable pub use Rattle.tool_words.specs.SoakForm.{soak_form}
pub use Rattle.tool_words.specs.Words.{Answers, AreMatches, HasSomeKind, ToolForm, app_by, app_with, fault_by, unless_refused}
unfoldable pub use Rattle.tool_words.specs.Words.{read_by}
pub use Rattle.tool_words.specs.declared.argument.Argument.{Argument}
pub use Rattle.tool_words.specs.declared.chooser.EventKind.{EventKind}
pub use Rattle.tool_words.specs.declared.chooser.EventKind.TheVariants.{Native, Preset}
pub use Rattle.tool_words.specs.declared.command.Command.TheVariants.{Avail, Decode, Encode, EventChooser, NativeAvail, Profil, Regions, Run, Soak}
pub use Rattle.tool_words.specs.declared.fault.WordsFault.{WordsFault}
pub use Rattle.tool_words.specs.declared.fault.WordsFault.TheVariants.{BadWords, Memory}
pub use Rattle.tool_words.specs.declared.presets.PresetWords.{PresetWords}
