-- The words that the proofs of this crate share, passed on from one place. Declares nothing.
pub use Rattle.call_laws.proofs.OwnCalls.{notes_are_of_threads, replies_are_of_threads}
pub use Rattle.call_laws.specs.Nesting.{AreBegun, ScriptsAreBegun, before_reading}
pub use Rattle.call_laws.specs.Scripts.{LooksUp, ScriptIsLookedUp}
pub use Rattle.call_laws.specs.Spans.{AllFit, SpansByPosition, region_span, region_spans, spans_after, spans_at}
pub use Rattle.call_laws.specs.Values.{column_sums, plus, wrapped_sums}
pub use Rattle.call_type.specs.Calls.{name_of}
pub use Rattle.component_table.specs.Catalogs.{CatalogView, catalog_of, looked_up, shape_of}
pub use Rattle.event_sets.proofs.Agreeing.{numbered}
pub use Rattle.event_sets.specs.Adding.{add_refusal}
pub use Rattle.event_sets.specs.AtRest.{AtRest, Widths, new_set, with_event}
pub use Rattle.event_tables.specs.Tables.{ComponentText}
pub use Rattle.name_encoder.specs.Names.{names}
pub use Rattle.overflow_dispatch.proofs.SinceLemmas.{added_is_told}
pub use Rattle.overflow_dispatch.specs.Notes.{EachAdded, EachBegun, EachGrown, told_since}
pub use Rattle.overflow_dispatch.specs.declared.handler.Note.{Note}
pub use Rattle.papi_base.specs.Numerals.{is_decimal}
unfoldable pub use Rattle.papi_base.specs.Numerals.{decimal_in}
pub use Rattle.papi_base.specs.Outside.{Held, Rose, Tape, appended, next_count, renumbered}
pub use Rattle.papi_base.specs.Streams.{Coming}
pub use Rattle.papi_base.specs.Whole.{AnswersWhole}
pub use Rattle.papi_base.specs.declared.code.Code.{Code}
pub use Rattle.papi_base.specs.declared.limits.TheConstants.{THREADS}
pub use Rattle.papi_base.specs.declared.native.EventRef.{EventRef}
pub use Rattle.papi_base.specs.declared.occurrence.Occ.{Occ}
pub use Rattle.papi_base.specs.declared.outside.Ending.TheVariants.{End}
pub use Rattle.papi_base.specs.declared.outside.OpenFail.{OpenFail}
pub use Rattle.papi_base.specs.declared.whole.WholeFault.{WholeFault}
pub use Rattle.papi_tools.specs.Carried.{CarriesOut, CarriesOutAndTells, CarriesOutOver}
pub use Rattle.papi_tools.specs.Causes.{CausesAreShown, IsOwn, StatusIsOwn}
pub use Rattle.papi_tools.specs.Choosing.{choice_said}
unfoldable pub use Rattle.papi_tools.specs.Choosing.{chooser_verdict}
pub use Rattle.papi_tools.specs.Contents.{after_presets, after_tables, catalog_with, content_under, lines_unless, map_under, presets_asked}
pub use Rattle.papi_tools.specs.Contents.{presets_of, regions_in, regions_under, script_in, script_under, unit_under}
unfoldable pub use Rattle.papi_tools.specs.Contents.{catalog_under}
pub use Rattle.papi_tools.specs.Decoding.{decoded_in, decoded_said, decoded_with, shown_in}
unfoldable pub use Rattle.papi_tools.specs.Decoding.{decode_verdict}
pub use Rattle.papi_tools.specs.Encoding.{encoding_lines}
unfoldable pub use Rattle.papi_tools.specs.Encoding.{encode_verdict, encoded_said}
pub use Rattle.papi_tools.specs.ErrorLines.{outcome_of}
pub use Rattle.papi_tools.specs.Looking.{FilesSeen, HasFileCause, IsTextual, Looked, SaysNo, Shows, SinkSeen, StaysHeld, StopsByFile, held_after}
pub use Rattle.papi_tools.specs.Looking.{refused_after}
pub use Rattle.papi_tools.specs.Marks.{is_bad, is_fault, mark_lines, marked_said, outcome_at}
pub use Rattle.papi_tools.specs.NativeListing.{natives_said}
unfoldable pub use Rattle.papi_tools.specs.NativeListing.{native_avail_verdict}
pub use Rattle.papi_tools.specs.Openings.{Absent, Answers, AnswersBy, ByName, CanGive, CanOpen, Ends, Failing, First, ForSome, Is, IsExpected, Leads}
pub use Rattle.papi_tools.specs.Openings.{Open, Openings, Stops, Verdict, and_then, bytes_of, bytes_until, found, opened, quiet, tape_under}
pub use Rattle.papi_tools.specs.Openings.{tapes_under}
unfoldable pub use Rattle.papi_tools.specs.Openings.{file_bytes}
pub use Rattle.papi_tools.specs.OwnReplies.{AreOverUnit, NotesAreOwn, RepliesAreOwn, RunsAreOwn, ScriptsAreKept}
pub use Rattle.papi_tools.specs.PresetListing.{presets_said}
unfoldable pub use Rattle.papi_tools.specs.PresetListing.{avail_verdict}
pub use Rattle.papi_tools.specs.Profiling.{counted_in, is_counted, profile_said, profiled_of, profiled_over}
unfoldable pub use Rattle.papi_tools.specs.Profiling.{profil_verdict, profiled_verdict}
pub use Rattle.papi_tools.specs.RegionCounts.{GivenRegions, calls_of, counted_of, counted_said, events_named, named_by, readings_in, said_with}
pub use Rattle.papi_tools.specs.RegionCounts.{values_in}
unfoldable pub use Rattle.papi_tools.specs.RegionCounts.{regions_said, regions_verdict}
pub use Rattle.papi_tools.specs.RegionTotals.{TotalsAreSums, ended_values}
pub use Rattle.papi_tools.specs.Run.{ran_of, run_said, shown_notes}
unfoldable pub use Rattle.papi_tools.specs.Run.{ran_verdict, run_verdict}
pub use Rattle.papi_tools.specs.Running.{CanBeGivenRun, GivenOf, GivenRun, IsGivenRun, given_of, given_with, note_counts, told_in}
unfoldable pub use Rattle.papi_tools.specs.Running.{ran_notes, ran_replies}
pub use Rattle.papi_tools.specs.Saying.{HasSinkCause, IsJudged, Says, SaysAll, TellsNotes, Wrote, WroteAll}
pub use Rattle.papi_tools.specs.Soaking.{soak_given, soak_tape, soak_tapes, stop_values, stops, summary_said, thread_total, thread_totals}
pub use Rattle.papi_tools.specs.Soaking.{total_between, totals_between, values_at}
unfoldable pub use Rattle.papi_tools.specs.Soaking.{soak_verdict, soaked}
pub use Rattle.papi_tools.specs.Status.{status_of}
pub use Rattle.papi_tools.specs.Streams.{CanEachGive, IsUnread, SomeFailed, empty_stream, sources_in, stream_of, streams_under}
unfoldable pub use Rattle.papi_tools.specs.Streams.{streams_of}
pub use Rattle.papi_tools.specs.Texts.{text_said}
pub use Rattle.papi_tools.specs.Verdict.{AnswersSaid, ComesTo, IsSettled, IsSettledAs, TellsBy, ToolTells, command_verdict, ended, notes_in}
pub use Rattle.papi_tools.specs.Verdict.{refused_said, verdict, verdict_for}
pub use Rattle.papi_tools.specs.declared.limits.TheConstants.{SCRIPT_BYTES, TABLE_BYTES}
pub use Rattle.papi_tools.specs.declared.refusal.Refusal.{Refusal}
pub use Rattle.papi_tools.specs.declared.refusal.Refusal.TheVariants.{BadWords, CannotRead, Faulty, NoSuchFile, TooLarge}
pub use Rattle.papi_tools.specs.declared.refusal.Stop.{Stop}
pub use Rattle.papi_tools.specs.declared.refusal.Stop.TheVariants.{Memory}
pub use Rattle.papi_tools.specs.declared.said.Said.{Said}
pub use Rattle.papi_tools.specs.declared.script_run.RanScript.{RanScript}
pub use Rattle.papi_tools.specs.declared.status.Outcome.{Outcome}
pub use Rattle.papi_tools.specs.declared.status.Outcome.TheVariants.{No, ReadFault, Whole}
pub use Rattle.papi_tools.specs.declared.status.Status.{Status}
pub use Rattle.postfix_rules.specs.Fitting.{BookFits}
pub use Rattle.postfix_rules.specs.Presets.{Book}
pub use Rattle.postfix_rules.specs.Values.{wrapped}
pub use Rattle.profil_hist.specs.Histograms.{HistText, IsHistogram}
pub use Rattle.profil_hist.specs.Ranges.{RangeText}
pub use Rattle.region_report.specs.Kept.{IsRegions}
pub use Rattle.region_report.specs.Lines.{is_reading}
pub use Rattle.region_report.specs.Reports.{ends, report_text, total, with_end}
pub use Rattle.region_report.specs.Scripts.{regions_of}
pub use Rattle.region_report.specs.Spans.{Span, reading_values, spans_from}
unfoldable pub use Rattle.region_report.specs.Spans.{pairwise}
pub use Rattle.region_report.specs.declared.fault.RegionCause.{RegionCause}
pub use Rattle.region_report.specs.declared.regions.RegionLine.{RegionLine}
pub use Rattle.script_lines.specs.Arguments.{number_or}
pub use Rattle.script_lines.specs.ByLine.{Refused, onto}
unfoldable pub use Rattle.script_lines.specs.ByLine.{lines_from}
pub use Rattle.script_lines.specs.Calls.{Written, call_of}
pub use Rattle.script_lines.specs.Kept.{IsScript}
pub use Rattle.script_lines.specs.Lines.{is_skipped, line_of_call, line_of_words, line_with}
unfoldable pub use Rattle.script_lines.specs.Lines.{call_line}
pub use Rattle.script_lines.specs.Scripts.{scripts}
unfoldable pub use Rattle.script_lines.specs.Scripts.{script_of}
pub use Rattle.script_lines.specs.Words.{words_of}
pub use Rattle.script_lines.specs.declared.fault.ScriptCause.{ScriptCause}
pub use Rattle.script_lines.specs.declared.fault.ScriptCause.TheVariants.{BadThread, OverLimit}
pub use Rattle.script_lines.specs.declared.script.ScriptLine.{ScriptLine}
pub use Rattle.script_lines.specs.declared.script.TheConstants.{MOST_CALLS}
pub use Rattle.script_runner.specs.Resolving.{IsGoodAsk, asked_of, line_of, setting_of}
unfoldable pub use Rattle.script_runner.specs.Resolving.{lines_of, reply_lines_of}
pub use Rattle.session_model.specs.CallTypes.{Asked, Call}
pub use Rattle.session_model.specs.Conditions.{IsGood}
pub use Rattle.session_model.specs.Fitness.{IsShape}
pub use Rattle.session_model.specs.World.{LineTold, Setting, World, calls_asked, calls_at, first_met, met_by, met_in, met_mark, notes_of_thread}
pub use Rattle.session_model.specs.World.{opening_world, told, turn_of, world_after_line}
pub use Rattle.session_model.specs.declared.line.Line.{Line}
pub use Rattle.session_model.specs.declared.reply.Body.{Body}
pub use Rattle.session_model.specs.declared.reply.Ended.{Ended}
pub use Rattle.session_model.specs.declared.reply.Ended.TheVariants.{Bad, Fault, Going}
pub use Rattle.session_model.specs.declared.reply.Reply.{Reply}
pub use Rattle.soak_input.specs.declared.summary.ThreadTotal.{ThreadTotal}
pub use Rattle.std.proofs.Common.{All, Bool, Err, FitsSigned, Global, IfOk, IfSome, IsOkAnd, IsSome, List, None, Ok, OnErr, Option, Result, Some, Vec}
pub use Rattle.std.proofs.Common.{[], add-one, ap, append-nil, append_assoc, ap₂, arith, cond, drop, drop-cons, false, filter, get_or, inl, inr}
pub use Rattle.std.proofs.Common.{is_some, length, length-append, map, map-id, pos, refl, replicate, rules, slice_get, slice_index_or, string_bytes}
pub use Rattle.std.proofs.Common.{subst, suc, sym, take, true, vec_capacity, vec_len, zero, zero-add, ℕ, ℤ, ◌++◌, ◌+ℤ◌, ◌+◌, ◌-◌, ◌<◌, ◌==◌, ◌∙◌, ◌∷◌}
pub use Rattle.std.proofs.Common.{◌≡◌, ◌≢◌, ◌≤◌, ◌⊎◌}
pub use Rattle.std.proofs.Math.Nat.{zero-sub}
pub use Rattle.std.proofs.Math.Seq.{drop-append_seam, take-append-add}
pub use Rattle.std.proofs.lemmas.Bool.{and_parts, le-ltb, leb-false, leb-true, lt-ltb}
pub use Rattle.std.proofs.lemmas.Grind.{flat_map-append}
pub use Rattle.std.proofs.lemmas.Int.{SFits-int_wrap, int_wrap-add_left, int_wrap_fits, ints, wrapping_add_is}
pub use Rattle.std.proofs.lemmas.Iterator.Adapters.{YieldsList-from_vec}
pub use Rattle.std.proofs.lemmas.Iterator.Consumers.{YieldsList-end}
pub use Rattle.std.proofs.lemmas.List.{drop-append-le, drop_all, drop_more, length-map, length-replicate, length-take-le, map-append, replicate_more}
pub use Rattle.std.proofs.lemmas.List.{take-append-le, take_all, take_more}
pub use Rattle.std.proofs.lemmas.List.Elements.{All-append, All-cons, All-head, All-nil, All-push, All-tail, filter-append}
pub use Rattle.std.proofs.lemmas.List.Folds.{Any-from_list_any}
pub use Rattle.std.proofs.lemmas.List.FromFn.{get_or-map-range_with_len, length-map-range_with_len, map-range_with_len_more}
pub use Rattle.std.proofs.lemmas.List.Sums.{sum_by-append}
pub use Rattle.std.proofs.lemmas.Option.{get_or_from_slice_get, slice_get_within}
pub use Rattle.std.proofs.lemmas.Simd.{map-map}
pub use Rattle.std.specs.Int.{int_wrapping_add, w64}
unfoldable pub use Rattle.std.specs.Int.{int_wrap}
pub use Rattle.std.specs.List.{Any, list_all, list_any, range_with_len}
pub use Rattle.std.specs.Option.{option_map, option_map_or}
pub use Rattle.std.specs.Prelude.{find, if◌then◌else◌, is_ok, nat_le, option_copied, ◌&&◌}
pub use Rattle.std.specs.Str.Lines.{lines}
pub use Rattle.std.specs.Str.Parse.{digits_value}
unfoldable pub use Rattle.stream_reader.specs.Occurs.{occurs_of}
pub use Rattle.stream_reader.specs.Reader.{ReaderView, SourceView, coming, faults_of, new_view, tape_of}
unfoldable pub use Rattle.stream_reader.specs.Reader.{comes}
pub use Rattle.thread_registry.proofs.Worlds.{some-streams}
unfoldable pub use Rattle.thread_registry.specs.Marks.{mark_at, marks_in}
pub use Rattle.thread_registry.specs.Plans.{IsPlanOf}
pub use Rattle.thread_registry.specs.Runs.{AllKept, CanEachCome, IsPlannedAndTold, IsPlannedFrom, reply_lines}
pub use Rattle.thread_registry.specs.declared.runner.plan.PlanLine.{PlanLine}
pub use Rattle.thread_registry.specs.declared.runner.result.ReplyLine.{ReplyLine}
pub use Rattle.thread_session.specs.Faults.{FaultsKept, FaultsRose, IsFaultBody, IsFaultReply, fault_count}
pub use Rattle.thread_session.specs.Prospects.{CanCome}
pub use Rattle.thread_session.specs.SessionView.{IsFresh}
pub use Rattle.tool_output.specs.Choosing.{all_taken, chooser_text, given_set, refused_text, taken_unless, text_of, with_named, with_text}
unfoldable pub use Rattle.tool_output.specs.Choosing.{with_texts}
pub use Rattle.tool_output.specs.declared.chooser.candidates.Candidates.{Candidates}
pub use Rattle.tool_words.specs.Form.{form}
pub use Rattle.tool_words.specs.declared.avail.AvailWords.{AvailWords}
pub use Rattle.tool_words.specs.declared.chooser.ChooserWords.{ChooserWords}
pub use Rattle.tool_words.specs.declared.command.Command.{Command}
pub use Rattle.tool_words.specs.declared.decode.DecodeWords.{DecodeWords}
pub use Rattle.tool_words.specs.declared.encode.EncodeWords.{EncodeWords}
pub use Rattle.tool_words.specs.declared.native_avail.NativeAvailWords.{NativeAvailWords}
pub use Rattle.tool_words.specs.declared.presets.PresetWords.{PresetWords}
pub use Rattle.tool_words.specs.declared.profil.ProfilWords.{ProfilWords}
pub use Rattle.tool_words.specs.declared.regions.RegionsWords.{RegionsWords}
pub use Rattle.tool_words.specs.declared.run.RunWords.{RunWords}
pub use Rattle.tool_words.specs.declared.soak.SoakWords.{SoakWords}
