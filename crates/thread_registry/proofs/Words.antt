-- The words that the proofs of this crate share, passed on from one place. Declares nothing.
pub use Rattle.call_type.specs.Calls.{name_of}
pub use Rattle.call_type.specs.declared.call.Call.TheVariants.{Register}
pub use Rattle.event_sets.specs.AtRest.{Widths}
pub use Rattle.overflow_dispatch.specs.Notes.{Begun, EachAdded, EachBegun, EachGrown, Grown}
pub use Rattle.overflow_dispatch.specs.declared.handler.Note.{Note}
pub use Rattle.papi_base.specs.Outside.{Rose, Tape}
pub use Rattle.papi_base.specs.Streams.{Coming, Dry}
pub use Rattle.papi_base.specs.declared.code.Code.{Code}
pub use Rattle.papi_base.specs.declared.native.Native.{Native}
pub use Rattle.papi_base.specs.declared.outside.Ending.TheVariants.{End}
pub use Rattle.postfix_rules.specs.Fitting.{BookFits}
pub use Rattle.postfix_rules.specs.Presets.{Book}
pub use Rattle.session_model.proofs.ByThread.{account-append, notes-append, notes_by_thread, opens_by_thread, replies-append}
pub use Rattle.session_model.proofs.Merging.{listed_bits, merges_to_world}
pub use Rattle.session_model.specs.Account.{Account, opening}
pub use Rattle.session_model.specs.CallTypes.{Asked, Call}
pub use Rattle.session_model.specs.Conditions.{IsGood}
pub use Rattle.session_model.specs.Fitness.{IsShape}
pub use Rattle.session_model.specs.Replies.{plain}
pub use Rattle.session_model.specs.Step.{account_after, notes_to, replies_to, step}
pub use Rattle.session_model.specs.World.{LineTold, Setting, calls_asked, calls_at, first_met, listed_from, mentioned_after, met_in, met_mark}
pub use Rattle.session_model.specs.World.{name_by, notes_of_thread, opening_accounts, opening_world}
pub use Rattle.session_model.specs.Worlds.{Ahead, IsAhead, ahead_after, bits_from, merged, merged_reply, next_reply, registered_after}
pub use Rattle.session_model.specs.declared.line.Line.{Line}
pub use Rattle.session_model.specs.declared.reply.Ended.{Ended}
pub use Rattle.session_model.specs.declared.reply.Reply.{Reply}
pub use Rattle.std.proofs.Common.{All, Bool, Err, IfOk, List, None, Ok, OnOk, Option, Result, Some, [], ap, append-nil, append_assoc, ap₂, arith}
pub use Rattle.std.proofs.Common.{drop, false, filter, get_or, if◌then◌else◌, inl, inr, length, length-append, map, map-id, refl, replicate, reverse}
pub use Rattle.std.proofs.Common.{rules, set, slice_get, slice_index_or, slice_set, subst, suc, sym, take, tests, true, unwrap_or, vec_capacity}
pub use Rattle.std.proofs.Common.{vec_len, zero, ℕ, ◌*◌, ◌++◌, ◌+◌, ◌-◌, ◌<◌, ◌==◌, ◌^◌, ◌||◌, ◌∙◌, ◌∷◌, ◌≡◌, ◌≢◌, ◌≤◌}
pub use Rattle.std.proofs.Math.Seq.{take-append-add, take-suc}
pub use Rattle.std.proofs.lemmas.Bool.{cases_eq, cases_lt}
pub use Rattle.std.proofs.lemmas.Bool.Decides.{nat_tests}
pub use Rattle.std.proofs.lemmas.Grind.{common_steps}
pub use Rattle.std.proofs.lemmas.Iterator.Adapters.{YieldsList-from_vec}
pub use Rattle.std.proofs.lemmas.Iterator.Consumers.{YieldsList-end}
pub use Rattle.std.proofs.lemmas.List.{drop_all, drop_more, get_or-append_right, get_or-map, get_or-reverse, get_or-set_other, get_or-set_same}
pub use Rattle.std.proofs.lemmas.List.{get_or_append_left, get_or_default, get_or_past, length-drop, length-map, length-reverse, length_push}
pub use Rattle.std.proofs.lemmas.List.{map-append, reverse-append, reverse-reverse, set-get_or, take_all}
pub use Rattle.std.proofs.lemmas.List.Elements.{All-append, All-drop, All-map, All-push, All-tail, filter-append}
pub use Rattle.std.proofs.lemmas.List.FromFn.{get_or-map-range_with_len}
pub use Rattle.std.proofs.lemmas.Option.{slice_get-get_or, slice_get_within}
pub use Rattle.std.specs.Bool.{MatchBool}
pub use Rattle.std.specs.List.{range_with_len, sum_by}
pub use Rattle.std.specs.Option.{option_map, option_or}
pub use Rattle.std.specs.Result.{is_err}
pub use Rattle.stream_reader.specs.Reader.{ReaderView, comes, coming, tape_of}
pub use Rattle.thread_core.proofs.Opening.{opening_agrees, opening_stands}
pub use Rattle.thread_core.specs.Stands.{CoreStands}
pub use Rattle.thread_registry.specs.Answers.{AllAnswered, IsAnswered, IsListOf, IsMade, answer_of, line_of, made_at}
pub use Rattle.thread_registry.specs.Cut.{GivesEachOne, busy, unevenness}
pub use Rattle.thread_registry.specs.Each.{Each}
pub use Rattle.thread_registry.specs.JobView.{CanWork, CutShort, Finished, FinishedTo, JobView, Replied, Worked, WorkedOrIdle, WorkedTo, seen_of}
pub use Rattle.thread_registry.specs.Jobs.{Left, before, befores_from, befores_of}
pub use Rattle.thread_registry.specs.Load.{load_of}
unfoldable pub use Rattle.thread_registry.specs.Marks.{mark_at, marks_in}
pub use Rattle.thread_registry.specs.Merges.{ahead_then, flags_by, lines_by, reply_by, rest_by}
pub use Rattle.thread_registry.specs.OpenedJobs.{IsOpenedForCalls, seen, session_of}
pub use Rattle.thread_registry.specs.Plans.{AreGood, AreThreads, Ask, IsGoodFor, Planned, ask_of, asks_from, calls_in, event_by, planned_at}
pub use Rattle.thread_registry.specs.Plans.{planned_by, planned_calls}
pub use Rattle.thread_registry.specs.Runs.{AllKept, AreInOrder, CanEachCome, IdleStay, IsPlannedAndTold, IsPlannedFrom, reply_lines, world_told}
pub use Rattle.thread_registry.specs.Served.{AreServed, Served, ServedAs}
pub use Rattle.thread_registry.specs.Works.{AreDealt, AreWorks, IsWork, calls_of}
pub use Rattle.thread_registry.specs.declared.runner.lines.Answer.{Answer}
pub use Rattle.thread_registry.specs.declared.runner.lines.AnsweredLine.{AnsweredLine}
pub use Rattle.thread_registry.specs.declared.runner.plan.PlanLine.{PlanLine}
pub use Rattle.thread_registry.specs.declared.runner.result.ReplyLine.{ReplyLine}
pub use Rattle.thread_registry.specs.declared.runner.works.Work.{Work}
pub use Rattle.thread_session.proofs.Endings.{follows_reply}
pub use Rattle.thread_session.proofs.Failing.{kept_same}
pub use Rattle.thread_session.proofs.Growing.{grown_more, grown_same}
pub use Rattle.thread_session.specs.Faults.{FaultsKept, FaultsRose, IsFaultReply, fault_count}
pub use Rattle.thread_session.specs.Follows.{FollowsTo, expecting}
pub use Rattle.thread_session.specs.Keeping.{IsStarvedTo}
pub use Rattle.thread_session.specs.Prospects.{CanCome}
pub use Rattle.thread_session.specs.SessionView.{IsFresh, SessionView}
pub use Rattle.thread_session.specs.Stands.{IsReady, Stands, to_come}
pub use native.Mathlib.Numerals.{unary_clauses}
