-- The words that the proofs of this crate share, passed on from one place. Declares nothing.
pub use Rattle.call_type.specs.declared.call.Call.TheVariants.{Run}
pub use Rattle.event_sets.specs.AtRest.{Widths}
pub use Rattle.event_sets.specs.declared.refusal.Refusal.{Refusal}
pub use Rattle.event_sets.specs.declared.refusal.Refusal.TheVariants.{Conflict, Plain}
pub use Rattle.overflow_dispatch.specs.Notes.{Grown, PartAdded}
pub use Rattle.overflow_dispatch.specs.declared.handler.Note.{Note}
pub use Rattle.papi_base.specs.Outside.{Tape}
pub use Rattle.papi_base.specs.Streams.{Bad, Coming, Dry, Fault, Mark}
pub use Rattle.papi_base.specs.declared.limits.TheConstants.{MOST_OCCURRENCES}
pub use Rattle.papi_base.specs.declared.occurrence.Occ.{Occ}
pub use Rattle.papi_base.specs.declared.outside.Ending.{Ending}
pub use Rattle.postfix_rules.specs.Fitting.{BookFits}
pub use Rattle.postfix_rules.specs.Presets.{Book}
pub use Rattle.session_model.specs.Account.{Account, Kept, opening}
pub use Rattle.session_model.specs.CallTypes.{Call}
pub use Rattle.session_model.specs.Fitness.{IsShape}
pub use Rattle.session_model.specs.Replies.{refused}
pub use Rattle.session_model.specs.Step.{StepOutcome, account_refusal, ended_at, performed, ran, ran_reply, step, unless}
pub use Rattle.session_model.specs.Thresholds.{note, notes_at, notes_over}
pub use Rattle.session_model.specs.declared.reply.Body.{Body}
pub use Rattle.session_model.specs.declared.reply.Ended.{Ended}
pub use Rattle.session_model.specs.declared.reply.Reply.{Reply}
pub use Rattle.std.proofs.Common.{Bool, IfSome, List, None, Option, Some, [], ap, append-nil, append_assoc, ap₂, arith, drop, false, get_or, inl, inr}
pub use Rattle.std.proofs.Common.{length, length-append, map, min, nat_lt, refl, slice_get, subst, suc, sym, take, true, zero, ℕ, ◌++◌, ◌+◌, ◌-◌, ◌<◌}
pub use Rattle.std.proofs.Common.{◌∙◌, ◌∷◌, ◌≡◌, ◌≢◌, ◌≤◌, ◌⊎◌}
pub use Rattle.std.proofs.Math.Nat.{min-eq_left, min-eq_right}
pub use Rattle.std.proofs.Math.Seq.{drop-append_seam, drop-length, take-append-add, take-append_seam, take-length}
pub use Rattle.std.proofs.lemmas.Bool.{le-ltb, lt-ltb}
pub use Rattle.std.proofs.lemmas.List.{drop-drop, drop-set-lt, length-map, length-set, take-append-le, take_more}
pub use Rattle.std.proofs.lemmas.Option.{unwrap_or-slice_get}
pub use Rattle.std.specs.Option.{option_map, option_map_or}
pub use Rattle.std.specs.Prelude.{Err, IfOk, Ok, OnErr, OnOk, Result, is_some, unwrap_or, ⊤}
pub use Rattle.stream_reader.proofs.Giving.{Closed, GaveAll, gave_mark, gave_more, gave_none}
pub use Rattle.stream_reader.specs.Reader.{Closes, GaveOne, GoesOn, NextGives, ReaderView, SourceView, Takes, at_mark, before_rest, coming, faults_of}
pub use Rattle.stream_reader.specs.Reader.{follows, nothing, tape_of}
unfoldable pub use Rattle.stream_reader.specs.Reader.{comes}
pub use Rattle.stream_reader.specs.declared.next.Next.{Next}
pub use Rattle.thread_core.proofs.Opening.{opening_agrees, opening_stands}
pub use Rattle.thread_core.specs.CoreView.{CoreView, opening_core}
pub use Rattle.thread_core.specs.Following.{Follows, reply_of}
pub use Rattle.thread_core.specs.Stands.{AgreesWith, CoreStands, consumed}
pub use Rattle.thread_core.specs.Told.{AreGiven, values_in}
pub use Rattle.thread_session.specs.Faults.{FaultsKept, IsFaultBody, IsFaultReply, fault_count}
pub use Rattle.thread_session.specs.Follows.{Does, FollowsAs, FollowsTo, IsCut, IsCutTo, consuming, expecting, is_run, run_reply}
pub use Rattle.thread_session.specs.Prospects.{CanCome}
pub use Rattle.thread_session.specs.SessionView.{AreInStep, SessionView}
pub use Rattle.thread_session.specs.Stands.{IsNew, IsReady, Stands, to_come}
pub use Rattle.std.specs.Prelude.{leb, nat_le, ◌%◌, ◌/◌, ◌&&◌, if◌then◌else◌}
pub use Rattle.std.proofs.lemmas.Bool.{ltb-true}
pub use Rattle.papi_base.specs.declared.limits.TheConstants.{LAST_STAMP}
pub use Rattle.thread_core.specs.Stands.{next_stamp}
pub use Rattle.session_model.specs.Account.{time_after}
pub use Rattle.thread_session.specs.Happening.{Happens, last_one, occurrence, occurrences, run_over}
unfoldable pub use Rattle.thread_session.specs.Happening.{largest_ones}
pub use Rattle.thread_session.specs.declared.happening.Happening.{Happening}
