-- The words that the proofs of this crate share, passed on from one place. Declares nothing.
pub use Rattle.counter_alloc.proofs.BlameComputed.{computes_blame}
pub use Rattle.counter_alloc.proofs.BlameLaws.{blame_stays}
pub use Rattle.counter_alloc.proofs.Fitting.{assignable_of, is_assignable_false, is_assignable_true, mask_small}
pub use Rattle.counter_alloc.proofs.LeastSet.{least_set}
pub use Rattle.counter_alloc.proofs.Prefixes.{assignable_front}
pub use Rattle.counter_alloc.specs.Assignments.{Assignable, Has}
pub use Rattle.counter_alloc.specs.Blames.{IsBlame}
pub use Rattle.counter_alloc.specs.Listing.{is_assignable}
pub use Rattle.counter_alloc.specs.Masks.{AreMasks, masks_of}
pub use Rattle.counter_alloc.specs.Matchings.{MatchingView}
pub use Rattle.counter_alloc.specs.declared.matching.Blame.{Blame}
pub use Rattle.event_sets.specs.Adding.{add_refusal}
pub use Rattle.event_sets.specs.Agreement.{IsOwned}
pub use Rattle.event_sets.specs.Assigning.{alone, blamed_unless, clash_of, members_from}
pub use Rattle.event_sets.specs.AtRest.{Widths, armed_elsewhere, cannot_take, clash_with, has_event, is_armed, is_bad_domain, is_bad_slice, is_full}
pub use Rattle.event_sets.specs.AtRest.{is_other, is_plain, leads, least_width, natives_with, new_set, place_of, set_natives, shares_native}
pub use Rattle.event_sets.specs.AtRest.{widths_at, with_event}
pub use Rattle.event_sets.specs.Conflicts.{AddConflictIsLeast, ConflictIsLeast, IsLeastClash}
pub use Rattle.event_sets.specs.Laws.{AddedAgrees, ArmedAgrees, AssignedAgrees, EmptiedAgrees, HeldHaveNatives, NativesAreFirsts, NativesAreOwned}
pub use Rattle.event_sets.specs.Laws.{RemovedAgrees, firsts}
pub use Rattle.event_sets.specs.Sets.{IsMatched, IsShared, IsSound, SetView, set_view}
pub use Rattle.event_sets.specs.Soundness.{AddedIsSound, ArmedIsSound, AssignedIsSound, EmptiedIsSound, HeldFit, NewIsSound, RemovedIsSound}
pub use Rattle.event_sets.specs.Soundness.{WithDomainIsSound, WithSliceIsSound}
pub use Rattle.event_sets.specs.declared.refusal.Clash.{Clash}
pub use Rattle.event_sets.specs.declared.refusal.Refusal.TheVariants.{Conflict, Plain}
pub use Rattle.papi_base.proofs.InPlace.{number_at}
pub use Rattle.papi_base.proofs.Steps.{any_here, any_later, drop_at, find_at, found_here, found_later, get_at, none_of, passed_over, take_at}
pub use Rattle.papi_base.specs.declared.bits.Domain.{Domain}
pub use Rattle.papi_base.specs.declared.code.Code.TheVariants.{Ecombo, Ecount, Einval}
pub use Rattle.papi_base.specs.declared.native.EventRef.{EventRef}
pub use Rattle.papi_base.specs.declared.native.Native.{Native}
pub use Rattle.postfix_rules.proofs.AllFields.{events_same, natives_same}
pub use Rattle.postfix_rules.proofs.Equal.{event_is, event_self, native_is, native_self}
pub use Rattle.postfix_rules.proofs.Joined.{each_is_among, earlier_stay, is_among, joined-append, none_twice, one_more_joins}
pub use Rattle.postfix_rules.proofs.Places.{get_pushed}
pub use Rattle.postfix_rules.specs.Fitting.{Fits, IsHeld}
pub use Rattle.postfix_rules.specs.Presets.{Book, component_of_event, entry, lead, natives_after, natives_of, natives_of_event, rule_of_event}
pub use Rattle.postfix_rules.specs.Rules.{DerivedView, IsDerived}
pub use Rattle.postfix_rules.specs.Sameness.{among, joined_by, same_event, same_native}
pub use Rattle.std.proofs.Common.{Bool, IsSomeAnd, List, None, Option, Some, [], ap, ap₂, arith, drop, false, get_or, inl, inr, length, length-append}
pub use Rattle.std.proofs.Common.{length-drop, length-take, length-take-le, map, min, not, refl, remove, rules, slice_get, slice_index, slice_set}
pub use Rattle.std.proofs.Common.{subst, suc, sym, take, true, zero, ℕ, ◌&&◌, ◌++◌, ◌+◌, ◌-◌, ◌<◌, ◌==◌, ◌^◌, ◌||◌, ◌∙◌, ◌∷◌, ◌≡◌, ◌≢◌, ◌≤◌, ◌⊎◌}
pub use Rattle.std.proofs.Math.ListN.{length-set}
pub use Rattle.std.proofs.lemmas.Bool.{le-ltb, lt-ltb, ltb-false, or_parts, or_right}
pub use Rattle.std.proofs.lemmas.Bool.Decides.{nat_tests}
pub use Rattle.std.proofs.lemmas.Grind.{common_steps}
pub use Rattle.std.proofs.lemmas.List.{append-nil, append_assoc, get_or-map, length-map, map-append, take-append-drop}
pub use Rattle.std.proofs.lemmas.List.Elements.{All-append, All-nil, All-push}
pub use Rattle.std.proofs.lemmas.List.Folds.{list_any-append}
pub use Rattle.std.proofs.lemmas.Nat.Bits.{bit_at-zero}
pub use Rattle.std.proofs.lemmas.Option.{get_or_from_slice_get, slice_get-get_or, slice_get_within}
pub use Rattle.std.proofs.lemmas.Result.{err_from_is_err_and}
pub use Rattle.std.specs.Int.{bit_at}
pub use Rattle.std.specs.List.{filter, flat_map, list_any, position_or_len}
pub use Rattle.std.specs.Option.{ForSome, option_map, option_map_or}
pub use Rattle.std.specs.Prelude.{All, IsNone, find, if◌then◌else◌, is_some, nat_le, nat_lt, unwrap_or}
