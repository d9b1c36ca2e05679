-- The words that the proofs of this crate share, passed on from one place. Declares nothing.
pub use Rattle.counter_alloc.specs.Assignments.{Assignable, AtOrBefore, Deficient, Has, IsAssignment, IsLeast, IsLeastDeficient, IsShortestPrefix}
pub use Rattle.counter_alloc.specs.Assignments.{counters_from, counters_of}
pub use Rattle.counter_alloc.specs.BlameOf.{in_each_set}
unfoldable pub use Rattle.counter_alloc.specs.BlameOf.{blame_of, deficient_sets, shortest_prefix}
pub use Rattle.counter_alloc.specs.Blames.{IsBlame}
pub use Rattle.counter_alloc.specs.Laws.{BlameStays, ComputesBlame, IsLeastSet, LeastSet, ListsEach, ListsInOrder, ListsSome, OneBlame, OneLeast}
pub use Rattle.counter_alloc.specs.Listing.{IsBefore, all_distinct, is_assignable, least}
unfoldable pub use Rattle.counter_alloc.specs.Listing.{assigns, choices, members}
pub use Rattle.counter_alloc.specs.Masks.{AreMasks}
pub use Rattle.counter_alloc.specs.Matchings.{IsMatching, MatchingView}
pub use Rattle.counter_alloc.specs.Search.{AreHeld, CanWalk, Grows, Holds, IsFree, IsTrail, Reaches}
pub use Rattle.counter_alloc.specs.Settling.{Settles}
pub use Rattle.counter_alloc.specs.declared.augment.Trail.{Trail}
pub use Rattle.counter_alloc.specs.declared.matching.Blame.{Blame}
pub use Rattle.std.proofs.Common.{Bool, List, Some, [], add-one, ap, ap₂, arith, bit_and, bit_or, cond, drop, eqb, false, get_or, get_or-set_other}
pub use Rattle.std.proofs.Common.{get_or-set_same, get_or-take, inl, inr, length, length-append, length-set, length-take-le, ltb, map, refl}
pub use Rattle.std.proofs.Common.{replicate, set, slice_get, subst, suc, sym, take, take-take, true, zero, ℕ, ◌%◌, ◌*◌, ◌++◌, ◌+◌, ◌-◌, ◌/◌, ◌<◌, ◌^◌}
pub use Rattle.std.proofs.Common.{◌↔◌, ◌∙◌, ◌∷◌, ◌≡◌, ◌≢◌, ◌≤◌, ◌⊎◌}
pub use Rattle.std.proofs.Math.Pow.{pow-lt, pow_mono}
pub use Rattle.std.proofs.lemmas.Bool.{and_from, and_parts, cases_Bool, cases_eq, cases_lt, cases_order, eq-eqb, eqb-false, eqb-true, iff_false}
pub use Rattle.std.proofs.lemmas.Bool.{lt-ltb, ltb-true, ne_eqb, not-true, not_from_false, or_from, or_parts}
pub use Rattle.std.proofs.lemmas.Grind.{common_steps, elements}
pub use Rattle.std.proofs.lemmas.List.{append_assoc, drop_all, drop_more, ext_get_or, get_or_append_left, get_or_push, length_push, set-set}
pub use Rattle.std.proofs.lemmas.List.{take-append-drop, take-append-le, take_all, take_more, take_more_set}
pub use Rattle.std.proofs.lemmas.List.Edits.{get_or-remove_above, get_or-remove_below, length-remove}
pub use Rattle.std.proofs.lemmas.Nat.{mod_below, one_shl, ones-le, or_lt, pow_pos, shr_below, shr_split}
pub use Rattle.std.proofs.lemmas.Nat.Bits.{bit_at-lt, bit_at-pow_other, bit_at-pow_same, bit_at-suc, bit_at-trailing_zeros, bit_at-zero, bit_at_above}
pub use Rattle.std.proofs.lemmas.Nat.Bits.{bit_at_and, bit_at_cat_low, bit_at_lowest, bit_at_ones, bit_at_ones_above, bit_at_or, bit_at_set_other}
pub use Rattle.std.proofs.lemmas.Nat.Bits.{bit_at_set_same, same_from_bits}
pub use Rattle.std.specs.Int.{bit_at, trailing_zeros, w32}
pub use Rattle.std.specs.List.{flat_map, list_any, range_with_len}
pub use Rattle.std.specs.Prelude.{Contains, Err, IfErr, Ok, OnErr, OnOk, Result, count_ones, filter, find, is_err, is_ok, is_some, not, remove}
pub use Rattle.std.specs.Prelude.{unwrap_or}
pub use lib.Bits.{or_zero_r}
pub use lib.Count.{ones_step}
