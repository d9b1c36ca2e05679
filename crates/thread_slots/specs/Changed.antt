-- What calls leave of a slot whose set does not run.
use Rattle.std.specs.Prelude.{ℕ, List, pos, length, replicate}
use Rattle.papi_base.specs.declared.native.EventRef.{EventRef}
use Rattle.postfix_rules.specs.Presets.{Book}
use Rattle.event_sets.specs.AtRest.{AtRest, Widths, set_natives, with_event}
use Rattle.event_sets.specs.Sets.{set_view}
use Rattle.thread_slots.specs.declared.slot.Counting.{Counting}
use Rattle.thread_slots.specs.declared.slot.Counting.TheVariants as counting
use Rattle.thread_slots.specs.declared.slot.Slot.{Slot}

-- a stopped set with n natives, that has counted nothing
abbrev pub at_zero : ℕ → Counting
at_zero natives = counting.Stopped (replicate natives 0)

-- another set at rest, that has counted nothing, and for each event 0 as the caller's value
abbrev pub renewed : Book → Widths → AtRest → Slot
renewed book shape s = record {
  set = set_view book shape s;
  values = replicate (length s.events) (pos 0);
  counting = at_zero (length (set_natives book s));
}

-- one more event: PAPI_add_event(3)
abbrev pub slot_with_event : Book → Widths → EventRef → Slot → Slot
slot_with_event book shape e slot = renewed book shape (with_event book e slot.set.rest)

-- a set that stopped with these numbers
abbrev pub rested : List ℕ → Slot → Slot
rested numbers slot = record slot { counting = counting.Stopped numbers }
