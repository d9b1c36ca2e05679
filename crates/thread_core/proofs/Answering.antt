-- What the answers of calls cite, passed on from one place. Declares nothing.
pub use Rattle.call_type.specs.declared.call.Call.TheVariants.{Accum, Add, Register, Reset}
pub use Rattle.thread_core.proofs.Changing.{rest_refuses, slot_view, name_refuses, add_follows, before_refuses, change_follows, code_after}
pub use Rattle.thread_core.proofs.Changing.{free_is, create_follows, destroy_follows}
pub use Rattle.thread_core.proofs.Following.{values_refused, goes, time_is, agrees_now, refused_follows, code_follows, Goes, registration, seen}
pub use Rattle.thread_core.proofs.Known.{counts_known, forgotten, runner_below, counted_known}
pub use Rattle.thread_core.proofs.Looking.{absent_follows, comp_below, goes_there, reads}
pub use Rattle.std.specs.Option.{option_copied}
pub use Rattle.thread_core.proofs.Shows.{has_unit, tellable, rested_tellable, assign_follows, assign_refused, list_follows, read_follows, state_follows}
pub use Rattle.thread_core.proofs.Starting.{accum_lengths, accum_follows, reset_follows, start_ready, start_follows, stop_follows}
pub use Rattle.thread_core.proofs.Words.{is_absent, slot_faces, false, refl, here, sym, ◌∙◌, Plain, Err, subst, CoreView, IsNamed, Ok, ap, rest_code}
pub use Rattle.thread_core.proofs.Words.{code_before, IsFor, ◌≡◌, free, arith, [], ap₂, List, UnitView, Option, Slot, register_shown, face_of_slot, at, ℕ}
pub use Rattle.thread_core.proofs.Words.{values_shown, Some, numbers_shown, rested, None, true, not, runs, time_after, ◌≤◌, CoreStands, counted_all}
pub use Rattle.std.proofs.lemmas.List.{with_items_is}
pub use Rattle.thread_slots.specs.Zeroed.{zeroed_units}
