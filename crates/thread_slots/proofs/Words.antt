-- The words that the proofs of this crate share, passed on from one place. Declares nothing.
pub use Rattle.counter_alloc.proofs.Listed.{lists_each, lists_some}
pub use Rattle.counter_alloc.proofs.Sets.{has_below}
pub use Rattle.counter_alloc.specs.Assignments.{Has, IsAssignment}
pub use Rattle.counter_alloc.specs.Listing.{assigns, is_assignable, least}
pub use Rattle.counter_alloc.specs.Masks.{AreMasks, masks_of}
pub use Rattle.counter_unit.proofs.Bits.{bit_at-bits_of}
pub use Rattle.counter_unit.proofs.Counts.{added, begun_is, exact_is}
pub use Rattle.counter_unit.proofs.Steps.{carries_at}
pub use Rattle.counter_unit.specs.Counting.{IsThreshold, UnitView, all_begun_again, all_carries, all_moved, at_place, begun, bits_of, carries, count_on, moved_place}
pub use Rattle.counter_unit.specs.Counting.{begun_again, period, register_at, whole}
pub use Rattle.counter_unit.specs.declared.registers.Register.{Register}
pub use Rattle.event_sets.proofs.Agreeing.{held_have_natives}
pub use Rattle.event_sets.specs.Assigning.{counters_for}
pub use Rattle.event_sets.specs.AtRest.{AtRest, Widths, is_bad_slice, leads, least_width, set_natives, widths_at}
pub use Rattle.multiplex.specs.Rotations.{IsSpanOf}
pub use Rattle.multiplex.specs.Turns.{Turns, active, estimate, weight_in_turn}
pub use Rattle.overflow_dispatch.specs.Passing.{carried_from}
pub use Rattle.papi_base.proofs.InPlace.{in_place_number, in_place_put, in_place_skip, number_at}
pub use Rattle.papi_base.proofs.Steps.{found_later, take_at}
pub use Rattle.papi_base.proofs.Weights.{weight_of-le}
pub use Rattle.papi_base.specs.Weight.{holds, in_mode, share, weight_of}
pub use Rattle.papi_base.specs.Widths.{AreWidths}
pub use Rattle.papi_base.specs.declared.bits.Domain.{Domain}
pub use Rattle.papi_base.specs.declared.limits.TheConstants.{MOST_SETS}
pub use Rattle.papi_base.specs.declared.native.EventRef.{EventRef}
pub use Rattle.papi_base.specs.declared.native.Native.{Native}
pub use Rattle.papi_base.specs.declared.occurrence.Occ.{Occ}
pub use Rattle.postfix_rules.proofs.Equal.{native_is, native_self}
pub use Rattle.postfix_rules.proofs.Joined.{each_is_among, is_among, none_twice}
pub use Rattle.postfix_rules.specs.Fitting.{IsHeld}
pub use Rattle.postfix_rules.specs.Presets.{Book, event_value, lead, natives_of_event, rule_of_event}
pub use Rattle.postfix_rules.specs.Rules.{rule_value}
pub use Rattle.postfix_rules.specs.Sameness.{among, same_native}
pub use Rattle.postfix_rules.specs.declared.derived.TheConstants.{MOST_NATIVES}
pub use Rattle.session_model.specs.Account.{Kept}
pub use Rattle.session_model.specs.Counts.{weighed}
pub use Rattle.session_model.specs.Estimates.{estimated_in, total}
pub use Rattle.session_model.specs.Faces.{free}
pub use Rattle.session_model.specs.Fitness.{IsFit}
pub use Rattle.session_model.specs.Registers.{threshold_among}
pub use Rattle.session_model.specs.Values.{sums}
pub use Rattle.std.proofs.Common.{Bool, List, None, Option, Some, [], ap, append_assoc, ap₂, arith, drop, false, get_or, inl, inr, length}
pub use Rattle.std.proofs.Common.{length-append, map, pos, refl, replicate, rules, set, slice_get, subst, suc, sym, take, true, vec_capacity, vec_len}
pub use Rattle.std.proofs.Common.{w64, zero, ℕ, ◌&&◌, ◌*◌, ◌++◌, ◌+◌, ◌-◌, ◌/◌, ◌<◌, ◌^◌, ◌||◌, ◌∙◌, ◌∷◌, ◌≡◌, ◌≤◌, ◌⊎◌}
pub use Rattle.std.proofs.Math.Pow.{pow_mono}
pub use Rattle.std.proofs.Math.Seq.{drop-append_seam, take-append_seam}
pub use Rattle.std.proofs.lemmas.Bool.{and_from, and_left, and_parts, and_right, cases_Bool, cases_eq, cases_lt, cases_order, cond-false, cond-true}
pub use Rattle.std.proofs.lemmas.Bool.{eq-eqb, lt-ltb, ltb-true, ne_eqb}
pub use Rattle.std.proofs.lemmas.Grind.{common_steps, elements}
pub use Rattle.std.proofs.lemmas.Int.{to_z-of_z}
pub use Rattle.std.proofs.lemmas.List.{append-nil, drop-drop, drop-replicate, drop-set-lt, drop_all, get_or-replicate, get_or-set_other}
pub use Rattle.std.proofs.lemmas.List.{get_or-set_same, length-drop, length-map, length-replicate, length-set, set-set, set_comm, take_all, take_more_set}
pub use Rattle.std.proofs.lemmas.Nat.Bits.{bit_at-zero}
pub use Rattle.std.proofs.lemmas.Option.{get_or_from_slice_get, slice_get-get_or, slice_get_read, slice_get_within}
pub use Rattle.std.proofs.lemmas.Simd.{map-map}
pub use Rattle.std.specs.Int.{bit_at, int_wrapping_add}
pub use Rattle.std.specs.List.{position_or_len}
pub use Rattle.std.specs.Option.{option_and_then, option_copied, option_map, option_map_or}
pub use Rattle.std.specs.Prelude.{All, FitsSigned, if◌then◌else◌, is_some, nat_lt, unwrap_or, ℤ, ◌==◌}
pub use Rattle.thread_slots.specs.Coded.{AreCoded}
pub use Rattle.thread_slots.specs.Counted.{with_turn}
pub use Rattle.thread_slots.specs.EventPlaces.{places_of, places_of_event}
pub use Rattle.thread_slots.specs.FirstPlaces.{AreFirst, key_of}
pub use Rattle.thread_slots.specs.Numbers.{AreGiven, numbers_at}
pub use Rattle.thread_slots.specs.Pinned.{AreAlone, ArePinned, IsProgrammed, armed_event, armed_from, pins_from, pins_of, place_of_lead, programs}
pub use Rattle.thread_slots.specs.Shown.{number_in, numbers_in, numbers_shown, pin_numbers, turn_numbers, unit_numbers}
pub use Rattle.thread_slots.specs.Slots.{turned}
pub use Rattle.thread_slots.specs.Starting.{IsArmable}
pub use Rattle.thread_slots.specs.Zeroed.{zeroed_at, zeroed_on, zeroed_unit}
pub use Rattle.thread_slots.specs.declared.pins.Pin.{Pin}
pub use Rattle.thread_slots.specs.declared.slot.Slot.{Slot}
pub use Rattle.thread_slots.specs.declared.values.TheConstants.{NUMBER_BITS}
