-- The words that the proofs of this crate share, passed on from one place. Declares nothing.
pub use Rattle.call_laws.specs.Conflicts.{AssignsLeast, ConflictsByCounters, ConflictsByTurns, IsByCounters, IsByTurns, IsFirstWithout, IsOpenTo}
pub use Rattle.call_laws.specs.Conflicts.{IsOverUnit, conflict, is_there, new_natives, set_destroyed}
pub use Rattle.call_laws.specs.Exact.{NativesAreExact}
pub use Rattle.call_laws.specs.History.{CallReply, OccAfter, Thread, answered, begun, history, is_number, is_ok, makes, newly_taken, placed_after}
pub use Rattle.call_laws.specs.History.{reply_after, set_made, taken, taken_by}
pub use Rattle.call_laws.specs.Measures.{begins, count_over, ends, estimate_in, estimate_over, measure_over, values_over}
pub use Rattle.call_laws.specs.Nesting.{AreBegun, IsBegun, ScriptsAreBegun, before_reading, depth_after, depth_after_line, depth_with, reading_line}
pub use Rattle.call_laws.specs.OfThreads.{NotesAreOfThreads, RepliesAreOfThreads, thread_in}
pub use Rattle.call_laws.specs.Passings.{Moment, NotesAreThePassings, OneNoteForEach, first_native, is_note_of, moment, note_of, notes_of_call}
pub use Rattle.call_laws.specs.Passings.{notes_of_occ, notes_of_run, notes_of_set, passes, passing_indexes, passings, passings_since, reaches_more}
pub use Rattle.call_laws.specs.Passings.{threshold_at}
pub use Rattle.call_laws.specs.Positions.{asked_in, count_between, position, stream_of, value_at, value_between, weights}
pub use Rattle.call_laws.specs.Readings.{ReadsByPosition, TakesAll, call_line, call_on_set, line_of, opening_calls, opening_lines, opening_script}
pub use Rattle.call_laws.specs.Readings.{reading_after, reading_at, readings_after, readings_told, values_in}
pub use Rattle.call_laws.specs.Refusing.{CodesStay, NamesStay, RefusedLineStays, SameAccount, SameNotes, SameReplies, is_refusal, without_refused}
pub use Rattle.call_laws.specs.Scripts.{CountsByPosition, LooksUp, ScriptIsLookedUp, line_by}
pub use Rattle.call_laws.specs.SetCalls.{changed, holds_after, is_accum, is_clearing, is_zeroing, runs_after, runs_now, set_now, set_of_call, zeroes}
pub use Rattle.call_laws.specs.Spans.{AllFit, SpansByPosition, region_span, spans_after}
pub use Rattle.call_laws.specs.Tapes.{AmountsFit, NativesAreExactOverTape, OneGroupOverTape, OneNoteOverTape, PastRises, StampsFit, StampsRise}
pub use Rattle.call_laws.specs.Tapes.{StreamStays, TurnsCountPerTick, account_of, said, thread_over}
pub use Rattle.call_laws.specs.Values.{AccumShows, ReadShows, StopShows, added, plus, sums_now, values_now, window, wrapped_sums}
pub use Rattle.counter_alloc.proofs.Fitting.{assignable_of, is_assignable_true, mask_small, not_assignable_of}
pub use Rattle.counter_alloc.proofs.Listed.{In, Ordered, listed, of_listed, ordered_assigns}
pub use Rattle.counter_alloc.specs.Assignments.{Assignable, AtOrBefore, IsLeast}
unfoldable pub use Rattle.counter_alloc.specs.BlameOf.{blame_of, deficient_sets, shortest_prefix}
pub use Rattle.counter_alloc.specs.Listing.{IsBefore, least}
unfoldable pub use Rattle.counter_alloc.specs.Listing.{assigns, choices, members}
pub use Rattle.counter_alloc.specs.Masks.{AreMasks, masks_of}
pub use Rattle.event_sets.proofs.Agreeing.{by_number, numbered}
pub use Rattle.event_sets.proofs.Clashing.{are_masks}
pub use Rattle.event_sets.proofs.JoinedNatives.{joined_all}
pub use Rattle.event_sets.proofs.LeastClash.{conflict_is_least}
pub use Rattle.event_sets.proofs.Removed.{removed_all}
pub use Rattle.event_sets.proofs.Sound.{few_counters}
pub use Rattle.event_sets.specs.Adding.{add_refusal}
pub use Rattle.event_sets.specs.Assigning.{alone}
pub use Rattle.event_sets.specs.AtRest.{AtRest, Widths, cannot_take, clash_with, is_bad_threshold, is_full, natives_with, new_set, place_of}
pub use Rattle.event_sets.specs.AtRest.{set_natives, widths_at, with_event}
pub use Rattle.event_sets.specs.declared.refusal.Clash.{Clash}
pub use Rattle.event_sets.specs.declared.refusal.Refusal.{Refusal}
pub use Rattle.event_sets.specs.declared.refusal.Refusal.TheVariants.{Conflict, Plain}
pub use Rattle.multiplex.specs.Groups.{groups}
pub use Rattle.multiplex.specs.Turns.{Turns, active, estimate, weight_in_turn}
pub use Rattle.overflow_dispatch.specs.declared.handler.Note.{Note}
pub use Rattle.papi_base.proofs.Steps.{get_front, take_at}
pub use Rattle.papi_base.proofs.Weights.{weight_of-le}
pub use Rattle.papi_base.specs.Outside.{Tape}
pub use Rattle.papi_base.specs.Streams.{Coming, Dry, Mark}
pub use Rattle.papi_base.specs.Weight.{held, holds, weight_of}
pub use Rattle.papi_base.specs.declared.bits.Domain.{Domain}
pub use Rattle.papi_base.specs.declared.code.Code.TheVariants.{Ecount, Einval, Eisrun}
pub use Rattle.papi_base.specs.declared.limits.TheConstants.{LARGEST_AMOUNT, LAST_STAMP, LEAST_THRESHOLD, MOST_SETS, THREADS}
pub use Rattle.papi_base.specs.declared.native.EventRef.{EventRef}
pub use Rattle.papi_base.specs.declared.native.Native.{Native}
pub use Rattle.papi_base.specs.declared.occurrence.Occ.{Occ}
pub use Rattle.papi_base.specs.declared.outside.Ending.{Ending}
pub use Rattle.postfix_rules.proofs.Joined.{one_more_joins}
pub use Rattle.postfix_rules.specs.Fitting.{BookFits, EventFits, IsHeld}
pub use Rattle.postfix_rules.specs.NativeCodes.{native_code, native_named}
pub use Rattle.postfix_rules.specs.Presets.{Book, event_value, lead, natives_of_event, rule_of_event}
pub use Rattle.postfix_rules.specs.Rules.{first_less_others, rule_value}
pub use Rattle.postfix_rules.specs.Sameness.{among, joined_by, same_native}
pub use Rattle.postfix_rules.specs.Trees.{Constant, Count, Node, Tree}
unfoldable pub use Rattle.postfix_rules.specs.Trees.{pile_from}
pub use Rattle.postfix_rules.specs.Values.{applied, top_value, wrapped}
unfoldable pub use Rattle.postfix_rules.specs.Values.{divided, signed_sum, tree_value}
pub use Rattle.postfix_rules.specs.declared.rule.Rule.{Rule}
pub use Rattle.postfix_rules.specs.declared.token.Operator.{Operator}
pub use Rattle.region_report.proofs.Counted.{not_reading, reading}
pub use Rattle.region_report.specs.Calls.{has_lines}
pub use Rattle.region_report.specs.Kept.{count_of}
pub use Rattle.region_report.specs.Lines.{Open, after_line, after_reading, begin_call, begun_of, by_script, innermost, innermost_call, is_reading}
pub use Rattle.region_report.specs.Lines.{line_of_thread, line_of_words, line_with, open_of, reads_call, region_call, run_call}
unfoldable pub use Rattle.region_report.specs.Lines.{region_line}
pub use Rattle.region_report.specs.Reports.{is_begin, name_of}
unfoldable pub use Rattle.region_report.specs.Reports.{report_text}
pub use Rattle.region_report.specs.Scripts.{above_line, all_ended, none_open, region_scripts}
unfoldable pub use Rattle.region_report.specs.Scripts.{regions_of}
pub use Rattle.region_report.specs.Spans.{difference, span}
unfoldable pub use Rattle.region_report.specs.Spans.{pairwise, spans_from}
pub use Rattle.region_report.specs.declared.fault.RegionCause.{RegionCause}
pub use Rattle.region_report.specs.declared.fault.RegionCause.TheVariants.{NotEnded, UnknownCall, WrongRegion}
pub use Rattle.region_report.specs.declared.regions.RegionCall.{RegionCall}
pub use Rattle.region_report.specs.declared.regions.RegionLine.{RegionLine}
pub use Rattle.region_report.specs.declared.reports.Reading.{Reading}
pub use Rattle.script_lines.specs.Answers.{and_then}
pub use Rattle.script_lines.specs.ByLine.{Refused, onto, put_before}
unfoldable pub use Rattle.script_lines.specs.ByLine.{lines_from}
pub use Rattle.script_lines.specs.Calls.{Written}
pub use Rattle.script_lines.specs.Lines.{is_skipped}
pub use Rattle.session_model.proofs.ByThread.{account_by_thread, found, notes_by_thread, opens_by_thread}
pub use Rattle.session_model.proofs.Counted.{places_stay}
pub use Rattle.session_model.proofs.CountsInTurns.{counts_per_tick, last-append, one_group_counts, weight_small}
pub use Rattle.session_model.proofs.FitStays.{fit_stays, opening_fits}
pub use Rattle.session_model.proofs.Fits.{event_fits, get_some}
pub use Rattle.session_model.proofs.Places.{set_other, set_same}
pub use Rattle.session_model.proofs.Sets.{at_map, each_at, performed_sets, row_fails, step_has, test_fails}
pub use Rattle.session_model.proofs.Within.{opening_within, rises-front, within_stays}
pub use Rattle.session_model.specs.Account.{Account, Kept, end, last_after, opening, time_after, zeroed}
pub use Rattle.session_model.specs.Bounds.{AllWithin, IsWithin, Rises}
pub use Rattle.session_model.specs.CallTypes.{Asked, Call}
pub use Rattle.session_model.specs.Changes.{changed_at, changed_by, kept_after, new_kept, sets_after}
pub use Rattle.session_model.specs.Conditions.{IsGood}
pub use Rattle.session_model.specs.Counts.{along, count, in_window, weighed}
pub use Rattle.session_model.specs.Estimates.{estimated, total, turns_of}
pub use Rattle.session_model.specs.Faces.{Face, at, change, face_of, faces_of, free, is_absent, runs_on}
pub use Rattle.session_model.specs.Fitness.{AreFit, IsFit, IsShape}
pub use Rattle.session_model.specs.Refusals.{conflict_of, conflict_row, first_of, row, rows}
pub use Rattle.session_model.specs.Replies.{Sight, assigned, done, plain, refused, reply_over, sight_of_kept}
pub use Rattle.session_model.specs.Step.{StepOutcome, account_after, account_refusal, notes_to, performed, replies_to, step, unless}
pub use Rattle.session_model.specs.Thresholds.{notes_at, notes_of_place, notes_over, passed_in}
pub use Rattle.session_model.specs.Values.{accumulated, measured, sums, values_of}
pub use Rattle.session_model.specs.World.{LineTold, Setting, World, account_at, calls_asked, calls_at, mentions_of, opening_world, told, turn_of}
pub use Rattle.session_model.specs.World.{world_after, world_after_line}
pub use Rattle.session_model.specs.declared.line.Line.{Line}
pub use Rattle.session_model.specs.declared.reply.Body.{Body}
pub use Rattle.session_model.specs.declared.reply.Reply.{Reply}
pub use Rattle.std.proofs.Common.{All, Bool, Err, FitsSigned, List, None, Ok, Option, Result, Some, [], ap, append-nil, append_assoc, ap₂, arith}
pub use Rattle.std.proofs.Common.{bytes_eq, cond, drop, false, filter, get_or, inl, inr, length, length-append, length-drop, map, min, not, pos, refl}
pub use Rattle.std.proofs.Common.{replicate, rules, slice_get, slice_index_or, slice_set, subst, suc, sum, sym, take, true, unwrap_or, zero, ℕ, ℤ}
pub use Rattle.std.proofs.Common.{◌%◌, ◌*◌, ◌++◌, ◌+ℤ◌, ◌+◌, ◌-ℤ◌, ◌-◌, ◌/◌, ◌<◌, ◌==◌, ◌^◌, ◌||◌, ◌∙◌, ◌∷◌, ◌≡◌, ◌≢◌, ◌≤◌, ◌⊎◌}
pub use Rattle.std.proofs.Math.Bool.{and-false}
pub use Rattle.std.proofs.Math.Facts.{Fits-of_z}
pub use Rattle.std.proofs.Math.Nat.{add-mod-mod, add-mul, div-mul-le_self, lt-div-mul-add, zero-add, zero-div, zero-mul}
pub use Rattle.std.proofs.Math.Seq.{take-add, take-length}
pub use Rattle.std.proofs.lemmas.Bool.{both_ways, cases_lt, eq-eqb, le-ltb, lt-ltb, ltb-true, ne_eqb, or_right}
pub use Rattle.std.proofs.lemmas.Bool.Decides.{eqb_tells, nat_tests}
pub use Rattle.std.proofs.lemmas.Int.{SFits-int_wrap, fits_signed_from_abs, int_wrap-add_left, int_wrap-add_right, int_wrap_fits, ints, to_z-of_z}
pub use Rattle.std.proofs.lemmas.Int.{wrapping_add-bits, wrapping_add_is, wrapping_sub_is}
pub use Rattle.std.proofs.lemmas.List.{drop-append-le, drop-drop, drop-map, drop_all, length-take, map-append, take-append-drop, take-append-le}
pub use Rattle.std.proofs.lemmas.List.{take-map, take_all}
pub use Rattle.std.proofs.lemmas.List.Concat.{flat_map_single}
pub use Rattle.std.proofs.lemmas.List.Elements.{All-cons, All-drop, All-head, All-map, All-nil, All-push, All-set, All-tail, All-take, All-weaker}
pub use Rattle.std.proofs.lemmas.List.Elements.{filter-append}
pub use Rattle.std.proofs.lemmas.List.Kept.{AllPairs-cons}
pub use Rattle.std.proofs.lemmas.List.Sums.{sum_by-append, sum_by-cons}
pub use Rattle.std.proofs.lemmas.Nat.{div_below, le-div, mod_below}
pub use Rattle.std.proofs.lemmas.Option.{slice_get_within}
pub use Rattle.std.proofs.lemmas.Slice.Eq.{bytes_eq-Decides}
unfoldable pub use Rattle.std.specs.Fmt.{digits}
pub use Rattle.std.specs.Int.{cast_signed, cast_unsigned, int_wrapping_add, int_wrapping_sub, w64}
unfoldable pub use Rattle.std.specs.Int.{int_wrap}
pub use Rattle.std.specs.List.{flat_map, list_all, list_any, position_or_len, range_with_len}
pub use Rattle.std.specs.Option.{option_and_then, option_map, option_map_or}
pub use Rattle.std.specs.Prelude.{if◌then◌else◌, ⊤}
pub use Rattle.stream_reader.proofs.Bounds.{IsLine, line-occurrence, stamp-fits, state-next}
pub use Rattle.stream_reader.specs.Judged.{is_above, judged}
pub use Rattle.stream_reader.specs.Occurs.{IsStart, after, first_start, joined, least_stamp}
unfoldable pub use Rattle.stream_reader.specs.Occurs.{occurs_from, occurs_of}
pub use Rattle.stream_reader.specs.declared.line.Judgement.{Judgement}
pub use Rattle.stream_reader.specs.declared.line.Judgement.TheVariants.{Bad, Occurs, Skipped, Version}
pub use Rattle.stream_reader.specs.declared.line.LineStart.{LineStart}
pub use Rattle.table_rows.specs.Texts.{Text}
