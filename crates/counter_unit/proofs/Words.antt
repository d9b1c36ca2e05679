-- The words that the proofs of this crate share, passed on from one place. Declares nothing.
pub use Rattle.counter_unit.specs.Counting.{After, FitWidths, FitsWidth, IsThreshold, UnitView, all_begun_again, all_carries, all_moved, at_place}
pub use Rattle.counter_unit.specs.Counting.{beginning, begun, begun_again, count_on}
pub use Rattle.counter_unit.specs.Counting.{bits_of, carries, moved, moved_place, period, register_at, whole, wrapped}
pub use Rattle.counter_unit.specs.Laws.{Added}
pub use Rattle.counter_unit.specs.Modes.{added, is_modified, weight_at}
pub use Rattle.counter_unit.specs.Selects.{AreAdmitted, AreMarked, ArePlain, AreSelects, IsMarkedAt, IsRemarked, admits, bit_of, has, has_code}
pub use Rattle.counter_unit.specs.Selects.{mode_of}
pub use Rattle.counter_unit.specs.declared.registers.Register.{Register}
pub use Rattle.counter_unit.specs.declared.selects.Key.{Key}
pub use Rattle.counter_unit.specs.declared.selects.Selects.{Selects}
pub use Rattle.papi_base.proofs.Weights.{weight_of-le}
pub use Rattle.papi_base.specs.Weight.{differ, holds, share, weight_of}
pub use Rattle.papi_base.specs.Widths.{AreWidths}
pub use Rattle.papi_base.specs.declared.bits.Domain.{Domain}
pub use Rattle.papi_base.specs.declared.limits.TheConstants.{MOST_WIDTH}
pub use Rattle.papi_base.specs.declared.native.Native.{Native}
pub use Rattle.papi_base.specs.declared.occurrence.Occ.{Occ}
pub use Rattle.std.proofs.Common.{Bool, List, None, Option, Some, [], ap, ap₂, arith, bit_and, false, get_or, inl, inr, length, refl, replicate, set}
pub use Rattle.std.proofs.Common.{subst, suc, sym, take, true, zero, ℕ, ◌%◌, ◌*◌, ◌+◌, ◌-◌, ◌/◌, ◌<◌, ◌^◌, ◌∙◌, ◌∷◌, ◌≡◌, ◌≤◌, ◌⊎◌}
pub use Rattle.std.proofs.Math.Arith.{lt_of_le-ne}
pub use Rattle.std.proofs.Math.Nat.{lt_of_le_of_lt, mod-eq_of_lt}
pub use Rattle.std.proofs.Math.Pow.{pow_mono}
pub use Rattle.std.proofs.Math.Seq.{take-set-lt}
pub use Rattle.std.proofs.lemmas.Bool.{and_left, cases_eq, cases_lt, cond-false, cond-true, cond_both, eq-eqb, le-leb, le-ltb, leb-false, leb-true}
pub use Rattle.std.proofs.lemmas.Bool.{lt-leb, lt-ltb, ne_eqb}
pub use Rattle.std.proofs.lemmas.List.{ext_get_or, get_or-replicate, get_or-set_other, get_or-set_same, get_or-take, get_or_past, length-replicate}
pub use Rattle.std.proofs.lemmas.List.{length-set, length-take-le, set-get_or, take-replicate}
pub use Rattle.std.proofs.lemmas.Nat.{and_le_l, div-add-mod', div-mul-add, mod-mul-add, mod_below, one_shl}
pub use Rattle.std.proofs.lemmas.Nat.Bits.{bit_at-lt, bit_at-suc, bit_at-trailing_zeros, bit_at-zero, bit_at_above, bit_at_and, bit_at_clear_other}
pub use Rattle.std.proofs.lemmas.Nat.Bits.{bit_at_clear_same, bit_at_lowest, bit_at_set_other, bit_at_set_same, same_from_bits}
pub use Rattle.std.specs.Int.{bit_at, bit_not, trailing_zeros, w32}
pub use Rattle.std.specs.Int.Bits.{or_zero_r}
pub use Rattle.std.specs.Option.{option_copied, option_map, option_map_or}
pub use Rattle.std.specs.Prelude.{if◌then◌else◌, min, nat_le, not, ◌&&◌, ◌==◌, ◌||◌}
