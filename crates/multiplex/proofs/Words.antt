-- The words that the proofs of this crate share, passed on from one place. Declares nothing.
pub use Rattle.counter_alloc.proofs.Fitting.{is_assignable_one, is_ok-assignable, mask_small, masks_push, one_mask}
pub use Rattle.counter_alloc.specs.Listing.{is_assignable}
pub use Rattle.counter_alloc.specs.Masks.{AreMasks, masks_of}
pub use Rattle.counter_alloc.specs.Matchings.{MatchingView}
pub use Rattle.multiplex.specs.Groups.{group_count, groups, groups_from}
pub use Rattle.multiplex.specs.Laws.{ActiveInTurns, ActiveWithin, AreLongest, EachHasGroup, GroupsAreParts, OneGroupActive, OneGroupEstimate}
pub use Rattle.multiplex.specs.Laws.{RunsEvenly, numbered, slices_run}
pub use Rattle.multiplex.specs.Rotations.{AreOrdered, IsSliceOf, IsSpanOf, RotationView}
pub use Rattle.multiplex.specs.Turns.{Turns, active, estimate, group_at, has_turn}
pub use Rattle.papi_base.specs.declared.native.Native.{Native}
pub use Rattle.std.proofs.Common.{Bool, List, Some, [], ap, append_assoc, ap₂, arith, cond, drop, false, get_or, inl, inr, length, length-append}
pub use Rattle.std.proofs.Common.{option_map, refl, replicate, slice_get, subst, suc, sym, true, zero, ℕ, ◌%◌, ◌*◌, ◌++◌, ◌+◌, ◌-◌, ◌/◌, ◌<◌, ◌==◌}
pub use Rattle.std.proofs.Common.{◌^◌, ◌∙◌, ◌∷◌, ◌≡◌, ◌≤◌}
pub use Rattle.std.proofs.Math.Nat.{div-lt_iff_lt-mul, div-mul-le_self, lt-div-mul-add, mod-add-div', mod-lt, mul-add-div_right, mul-div_cancel}
pub use Rattle.std.proofs.lemmas.Bool.{cases_order, cond-false, ne_eqb}
pub use Rattle.std.proofs.lemmas.Bool.Decides.{nat_tests}
pub use Rattle.std.proofs.lemmas.List.{append-nil}
pub use Rattle.std.proofs.lemmas.List.Sums.{sum_by-append}
pub use Rattle.std.proofs.lemmas.Nat.{div-add-mod', div-mul-add, mod-mul-add, mod_below}
pub use Rattle.std.proofs.lemmas.Option.{get_or_from_slice_get, slice_get-map, slice_get_within}
pub use Rattle.std.specs.List.{concat, range_with_len}
pub use Rattle.std.specs.Prelude.{All, count_by, if◌then◌else◌, min, nat_lt}
