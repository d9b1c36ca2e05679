-- The words that the proofs of this crate share, passed on from one place. Declares nothing.
pub use Rattle.event_sets.proofs.Agreeing.{added_agrees, armed_agrees, assigned_agrees, by_number, emptied_agrees, event_owned, held_component}
pub use Rattle.event_sets.proofs.Agreeing.{held_have_natives, numbered, removed_agrees}
pub use Rattle.event_sets.proofs.Kept.{armed_sound, assigned_sound, sliced_sound}
pub use Rattle.event_sets.proofs.Removed.{removed_all}
pub use Rattle.event_sets.proofs.Sound.{added_is_sound, emptied_is_sound, few_counters, new_is_sound, removed_is_sound, with_domain_is_sound}
pub use Rattle.event_sets.specs.Adding.{add_refusal}
pub use Rattle.event_sets.specs.Agreement.{Agrees}
pub use Rattle.event_sets.specs.AtRest.{AtRest, Widths, cannot_arm, cannot_take, clash_with, emptied, has_event, is_armed, is_bad_domain}
pub use Rattle.event_sets.specs.AtRest.{is_bad_slice, is_bad_threshold, is_full, is_other, is_plain, least_width, new_set, shares_native, widths_at}
pub use Rattle.event_sets.specs.AtRest.{with_event, with_threshold, without_event}
pub use Rattle.event_sets.specs.Sets.{set_view}
pub use Rattle.event_sets.specs.declared.refusal.Refusal.{Refusal}
pub use Rattle.event_sets.specs.declared.refusal.Refusal.TheVariants.{Conflict}
pub use Rattle.multiplex.proofs.Estimates.{estimate_whole}
pub use Rattle.multiplex.proofs.Ticks.{count-cons, range-append}
pub use Rattle.multiplex.specs.Turns.{Turns, active, estimate, has_turn, weight_in_turn}
pub use Rattle.papi_base.proofs.Steps.{get_at, none_of, passed_over}
pub use Rattle.papi_base.specs.Streams.{Coming, Dry}
pub use Rattle.papi_base.specs.Weight.{held, holds, weight_of}
pub use Rattle.papi_base.specs.declared.bits.Domain.{Domain}
pub use Rattle.papi_base.specs.declared.code.Code.{Code}
pub use Rattle.papi_base.specs.declared.code.Code.TheVariants.{Einval, Eisrun}
pub use Rattle.papi_base.specs.declared.limits.TheConstants.{MOST_SETS, THREADS}
pub use Rattle.papi_base.specs.declared.native.EventRef.{EventRef}
pub use Rattle.papi_base.specs.declared.native.Native.{Native}
pub use Rattle.papi_base.specs.declared.occurrence.Occ.{Occ}
pub use Rattle.postfix_rules.proofs.Equal.{nat_is}
pub use Rattle.postfix_rules.specs.Fitting.{BookFits, EventFits, Fits, IsHeld}
pub use Rattle.postfix_rules.specs.Presets.{Book, component_of_event, entry, event_value, natives_of_event, rule_of_event}
pub use Rattle.postfix_rules.specs.Rules.{DerivedView, IsDerived}
pub use Rattle.session_model.specs.Account.{Account, Kept, clock, end, last_after, opening, time_after, zeroed}
pub use Rattle.session_model.specs.Bounds.{AllValued, AllWithin, AreApart, IsValued, IsWithin, Rises}
pub use Rattle.session_model.specs.CallTypes.{Asked, Call}
pub use Rattle.session_model.specs.Changes.{changed_at, changed_by, kept_after, new_kept, sets_after}
pub use Rattle.session_model.specs.Conditions.{IsGood}
pub use Rattle.session_model.specs.Counts.{along, count, in_window, weighed}
pub use Rattle.session_model.specs.Estimates.{total, turns_of}
pub use Rattle.session_model.specs.Faces.{Face, at, change, component_runs, face_of, faces_of, free, has, runs, runs_on}
pub use Rattle.session_model.specs.Fitness.{AreFit, IsFit, IsShape}
pub use Rattle.session_model.specs.Keeping.{AgreementStays, ApartStays, FitStays, OpeningAgrees, OpeningApart, OpeningFits, OpeningValued}
pub use Rattle.session_model.specs.Keeping.{OpeningWithin, PlacesStay, RiseStays, ValuesStay, WithinStays}
pub use Rattle.session_model.specs.Refusals.{first_of, is_multiplexed, row, rows}
pub use Rattle.session_model.specs.Replies.{done}
pub use Rattle.session_model.specs.Step.{StepOutcome, account_after, account_refusal, notes_to, performed, replies_to, step, unless}
pub use Rattle.session_model.specs.Turning.{CountsPerTick, OneGroupCounts}
pub use Rattle.session_model.specs.Values.{measured, sums, values_of}
pub use Rattle.session_model.specs.World.{Setting, World, account_at, answer, calls_asked, calls_at, is_call, listed_from, mentioned_after}
pub use Rattle.session_model.specs.World.{opening_accounts, turn, world_after_line}
pub use Rattle.session_model.specs.Worlds.{AccountByThread, Ahead, IsAhead, MergesToWorld, NotesByThread, OpensByThread, RegisteredFollows}
pub use Rattle.session_model.specs.Worlds.{RepliesByThread, ahead_after, bits_from, merged_reply, next_reply, registered_after}
pub use Rattle.session_model.specs.declared.line.Line.{Line}
pub use Rattle.session_model.specs.declared.reply.Reply.{Reply}
pub use Rattle.std.proofs.Common.{Bool, List, None, Ok, Option, Result, Some, [], ap, append_assoc, ap₂, arith, cond, drop, false, inl, inr, is_some}
pub use Rattle.std.proofs.Common.{length, length-append, length-drop, map, min, not, pos, refl, rules, slice_get, slice_index_or, slice_set, subst}
pub use Rattle.std.proofs.Common.{suc, sym, take, take-take, true, unwrap_or, zero, ℕ, ℤ, ◌%◌, ◌*◌, ◌++◌, ◌+◌, ◌-◌, ◌/◌, ◌<◌, ◌==◌, ◌^◌, ◌∙◌, ◌∷◌}
pub use Rattle.std.proofs.Common.{◌≡◌, ◌≢◌, ◌≤◌, ◌⊎◌}
pub use Rattle.std.proofs.Math.ListN.{length-set}
pub use Rattle.std.proofs.Math.Seq.{take-length}
pub use Rattle.std.proofs.lemmas.Bool.{cases_eq, eqb-true, not-false, or_parts}
pub use Rattle.std.proofs.lemmas.Bool.Decides.{nat_tests}
pub use Rattle.std.proofs.lemmas.List.{drop-append-le, drop-take, get_or-set_other, get_or-set_same, length-map, length-replicate, take-append-drop}
pub use Rattle.std.proofs.lemmas.List.{take-append-le}
pub use Rattle.std.proofs.lemmas.List.Elements.{All-push, All-replicate, All-set, All-tail}
pub use Rattle.std.proofs.lemmas.List.Sums.{sum_by-append, sum_by-cons}
pub use Rattle.std.proofs.lemmas.Option.{get_or_from_slice_get, slice_get-get_or, slice_get_read, slice_get_within}
pub use Rattle.std.specs.List.{list_any, range_with_len}
pub use Rattle.std.specs.Option.{ForSome, option_and_then, option_map, option_map_or}
pub use Rattle.std.specs.Prelude.{All, IsSomeAnd, count_by, if◌then◌else◌, nat_le, sum}
