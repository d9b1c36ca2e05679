-- The words that the proofs of this crate share, passed on from one place. Declares nothing.
pub use Rattle.counter_alloc.specs.Masks.{masks_of}
pub use Rattle.counter_unit.proofs.Counts.{added, sum_is}
pub use Rattle.counter_unit.proofs.Places.{at_place-replicate, period_some}
pub use Rattle.counter_unit.specs.Counting.{UnitView, all_moved, at_place, beginning, period, register_at}
pub use Rattle.counter_unit.specs.declared.registers.Register.{Register}
pub use Rattle.event_sets.proofs.Agreeing.{held_have_natives, numbered}
pub use Rattle.event_sets.specs.Adding.{add_refusal}
pub use Rattle.event_sets.specs.Assigning.{counters_for}
pub use Rattle.event_sets.specs.AtRest.{AtRest, Widths, cannot_arm, cannot_take, clash_with, has_event, is_armed, is_bad_domain, is_bad_slice}
pub use Rattle.event_sets.specs.AtRest.{is_bad_threshold, is_full, is_other, set_natives, shares_native, widths_at}
pub use Rattle.event_sets.specs.Sets.{set_view}
pub use Rattle.event_sets.specs.declared.refusal.Clash.{Clash}
pub use Rattle.event_sets.specs.declared.refusal.Refusal.{Refusal}
pub use Rattle.event_sets.specs.declared.refusal.Refusal.TheVariants.{Conflict, Plain}
pub use Rattle.multiplex.proofs.Grouping.{each_has_group}
pub use Rattle.multiplex.specs.Groups.{groups}
pub use Rattle.multiplex.specs.Rotations.{RotationView}
pub use Rattle.multiplex.specs.Turns.{Turns, active, estimate, group_at, has_turn, weight_in_turn}
pub use Rattle.overflow_dispatch.specs.Passing.{carried_from}
pub use Rattle.overflow_dispatch.specs.declared.handler.Note.{Note}
pub use Rattle.papi_base.proofs.Weights.{weight_of-le}
pub use Rattle.papi_base.specs.Streams.{Mark}
pub use Rattle.papi_base.specs.Weight.{holds, weight_of}
pub use Rattle.papi_base.specs.Widths.{AreWidths}
pub use Rattle.papi_base.specs.declared.bits.Domain.{Domain}
pub use Rattle.papi_base.specs.declared.code.Code.{Code}
pub use Rattle.papi_base.specs.declared.code.Code.TheVariants.{Ecombo, Ecount, Einval, Eisrun, Enocmp, Enoevst, Enotrun}
pub use Rattle.papi_base.specs.declared.limits.TheConstants.{LAST_STAMP, MOST_OCCURRENCES, MOST_SETS}
pub use Rattle.papi_base.specs.declared.native.EventRef.{EventRef}
pub use Rattle.papi_base.specs.declared.native.Native.{Native}
pub use Rattle.papi_base.specs.declared.occurrence.Occ.{Occ}
pub use Rattle.postfix_rules.proofs.Joined.{each_is_among, is_among}
pub use Rattle.postfix_rules.specs.Fitting.{BookFits, IsHeld, IsNameCode, IsNamed}
pub use Rattle.postfix_rules.specs.Presets.{Book, event_value, lead, natives_of_event, rule_of_event}
pub use Rattle.postfix_rules.specs.Rules.{rule_value}
pub use Rattle.postfix_rules.specs.Sameness.{same_native}
pub use Rattle.session_model.proofs.Apart.{apart_stays, opening_apart}
pub use Rattle.session_model.proofs.Counted.{places_stay}
pub use Rattle.session_model.proofs.CountsInTurns.{counts_per_tick}
pub use Rattle.session_model.proofs.FitStays.{fit_stays, opening_fits}
pub use Rattle.session_model.proofs.Pushing.{clock_now, clock_stays, last_after-append, length-along, weighed_running, weighed_stopped}
pub use Rattle.session_model.proofs.Sets.{at_map, free_map, here, map_put, row_fails}
pub use Rattle.session_model.proofs.Within.{opening_within, rises-push, within_more, within_stays}
pub use Rattle.session_model.specs.Account.{Account, Kept, clock, end, last_after, opening, time_after, zeroed}
pub use Rattle.session_model.specs.Bounds.{AllWithin, AreApart, IsValued, IsWithin, Rises}
pub use Rattle.session_model.specs.CallTypes.{Call}
pub use Rattle.session_model.specs.Changes.{kept_after, new_kept, sets_after}
pub use Rattle.session_model.specs.Conditions.{IsGood}
pub use Rattle.session_model.specs.Counts.{along, count, weighed}
pub use Rattle.session_model.specs.Estimates.{estimated_in, total, turns_of}
pub use Rattle.session_model.specs.Faces.{Face, at, change, face_of, faces_of, free, has, is_absent, is_running, runs, runs_on}
pub use Rattle.session_model.specs.Fitness.{AreFit, IsFit, IsShape}
pub use Rattle.session_model.specs.Refusals.{conflict_of, first_of, has_counter, has_events, is_multiplexed, leaves_free, leaves_free_by, refusal_of}
pub use Rattle.session_model.specs.Refusals.{row, rows}
pub use Rattle.session_model.specs.Registers.{register_of, threshold_among}
pub use Rattle.session_model.specs.Replies.{assigned, done, plain, refused, reply_over, shown, sight_of_kept, state_bits}
pub use Rattle.session_model.specs.Step.{StepOutcome, account_refusal, performed, step, unless}
pub use Rattle.session_model.specs.Thresholds.{note, notes_at, passed_from, passed_in, passes}
pub use Rattle.session_model.specs.Values.{accumulated, measured, sums, values_of}
pub use Rattle.session_model.specs.declared.reply.Assigned.{Assigned}
pub use Rattle.session_model.specs.declared.reply.Body.{Body}
pub use Rattle.session_model.specs.declared.reply.Reply.{Reply}
pub use Rattle.std.proofs.Common.{Bool, Err, List, None, Ok, Option, Result, Some, [], ap, append_assoc, ap₂, arith, cond, drop, false, get_or}
pub use Rattle.std.proofs.Common.{if◌then◌else◌, inl, inr, is_some, length, length-append, length-drop, map, not, option_map, pos, refl, replicate}
pub use Rattle.std.proofs.Common.{set, slice_get, slice_set, subst, subst₂, suc, sym, take, take_all, true, unwrap_or, vec_capacity, vec_len, zero, ℕ}
pub use Rattle.std.proofs.Common.{ℤ, ◌%◌, ◌*◌, ◌++◌, ◌+◌, ◌-◌, ◌/◌, ◌<◌, ◌^◌, ◌∙◌, ◌∷◌, ◌≡◌, ◌≤◌, ◌⊎◌}
pub use Rattle.std.proofs.Math.Nat.{div-le_of_le-mul}
pub use Rattle.std.proofs.lemmas.Bool.{and_parts as both, cases_Bool, cases_eq, cases_lt, cond-false, cond-true, eq-eqb, eqb-false, eqb-true, le-leb, le-ltb}
pub use Rattle.std.proofs.lemmas.Bool.{ne_eqb, not-false, not-true, or_parts}
pub use Rattle.std.proofs.lemmas.Bool.Decides.{nat_tests}
pub use Rattle.std.proofs.lemmas.List.{append-nil, drop_all, length-map, length-replicate, set-set, set_comm}
pub use Rattle.std.proofs.lemmas.List.Elements.{All-cons, All-map, All-nil}
pub use Rattle.std.proofs.lemmas.List.Sums.{sum_by-append, sum_by-take-drop}
pub use Rattle.std.proofs.lemmas.Option.{get_or_from_slice_get, slice_get_within}
pub use Rattle.std.proofs.lemmas.Simd.{splat_is_map}
pub use Rattle.std.specs.Int.{bit_at}
pub use Rattle.std.specs.List.{list_all, list_any, position_or_len}
pub use Rattle.std.specs.Option.{ForSome, option_and_then, option_map_or}
pub use Rattle.std.specs.Prelude.{All, IfErr, OnErr, OnOk, count_by, is_none, nat_le, nat_lt, slice_index, sum, ⊤, ◌&&◌, ◌==◌, ◌||◌}
pub use Rattle.thread_core.specs.CoreView.{CoreView, core_of, opening_core}
pub use Rattle.thread_core.specs.Following.{Follows, IsRefusal, changed_reply, is_on_sets, reply_of, values_reply}
pub use Rattle.thread_core.specs.Holding.{counting_by, slot_of, slot_with, slots_of}
pub use Rattle.thread_core.specs.Refusing.{IsRefusedWith, IsThere, first_code, rest_code, slot_faces}
pub use Rattle.thread_core.specs.Registers.{CountsOn, EachIsCounted, NoOtherIsProgrammed, NothingIsProgrammed, programmed, reg, start}
pub use Rattle.thread_core.specs.Running.{AreKnown, told_by}
pub use Rattle.thread_core.specs.Stands.{AgreesWith, CoreStands, consumed}
pub use Rattle.thread_core.specs.declared.thread.Core.TheInside.{Inside}
pub use Rattle.thread_slots.proofs.Beginning.{armable}
pub use Rattle.thread_slots.proofs.Carries.{AreTold, pin_carries, pin_passes}
pub use Rattle.thread_slots.proofs.Lists.{all_at, at-some, at_read, drop_at, get-map, get-map_some, get-set_other, get-set_same, get_at, map_same}
pub use Rattle.thread_slots.proofs.Lists.{map_same_on, same_items, same_some, set-same, some-at}
pub use Rattle.thread_slots.proofs.Placing.{get-pins_from, get_position, lead_among, pin_made, pinned, placed, position_is, threshold_is}
pub use Rattle.thread_slots.proofs.Programs.{all_moved-none, all_moved-programs, pinned-tail, programs-again, programs-at, programs-other, programs-same}
pub use Rattle.thread_slots.proofs.Telling.{pins_natives, pins_show, turns_show}
pub use Rattle.thread_slots.specs.Accumulated.{slot_with_sums}
pub use Rattle.thread_slots.specs.Altering.{IsFor, change_refusal, changing_call, code_before, lacks_component, slot_after}
pub use Rattle.thread_slots.specs.Changed.{rested, slot_with_event}
pub use Rattle.thread_slots.specs.Countable.{AreCountable, IsCountable, IsTurn}
pub use Rattle.thread_slots.specs.Counted.{Counted, CountedAll, carry_of, counted, counted_all, counted_at, counted_over, counted_place, with_turn}
pub use Rattle.thread_slots.specs.EventPlaces.{places_of}
pub use Rattle.thread_slots.specs.Pinned.{AreAlone, AreOnUnit, ArePinned, HasUnit, IsAlone, IsProgrammed, armed_event, armed_from, armed_of, pins_of, place_of_lead, programs}
pub use Rattle.thread_slots.specs.RawRegister.{register_by, register_on, register_shown, register_value}
pub use Rattle.thread_slots.specs.Shown.{IsInTurns, IsPlaced, IsTellable, number_in, numbers_shown, turn_numbers, unit_numbers, values_shown}
pub use Rattle.thread_slots.specs.Slots.{face_of_slot, is_counting, new_slot, numbers_of, rotation_of, turned}
pub use Rattle.thread_slots.specs.Starting.{IsStartable, Started, begun, begun_by}
pub use Rattle.thread_slots.specs.Units.{empty_unit, owner_from, registers_by, runner, running_registers, unit_at, units_from, units_of}
pub use Rattle.thread_slots.specs.Zeroed.{zeroed_at, zeroed_on, zeroed_slot, zeroed_units}
pub use Rattle.thread_slots.specs.declared.changing.Change.{Change}
pub use Rattle.thread_slots.specs.declared.pins.Pin.{Pin}
pub use Rattle.thread_slots.specs.declared.slot.Counting.{Counting}
pub use Rattle.thread_slots.specs.declared.slot.Slot.{Slot}
pub use Rattle.thread_slots.specs.declared.values.TheConstants.{NUMBER_BITS}
