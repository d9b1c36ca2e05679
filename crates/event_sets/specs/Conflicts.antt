-- What a conflict names: PAPI_ECNFLCT of PAPI_add_event(3).
use Rattle.std.specs.Prelude.{◌≡◌, ◌<◌, ◌^◌, false, List, All, Some, None}
use Rattle.papi_base.specs.declared.native.Native.{Native}
use Rattle.papi_base.specs.declared.native.EventRef.{EventRef}
use Rattle.counter_alloc.specs.Laws.{IsLeastSet}
use Rattle.counter_alloc.specs.Masks.{masks_of}
use Rattle.counter_alloc.specs.declared.matching.Blame.{Blame}
use Rattle.postfix_rules.specs.Presets.{Book}
use Rattle.event_sets.specs.declared.refusal.Clash.{Clash}
use Rattle.event_sets.specs.declared.refusal.Refusal.TheVariants.{Conflict}
use Rattle.event_sets.specs.Adding.{add_refusal}
use Rattle.event_sets.specs.Assigning.{members_from}
use Rattle.event_sets.specs.AtRest.{AtRest, clash_with, is_full, natives_with}

-- the clash has the natives at the places of the least set with fewer allowed counters than members, and these counters
pub record IsLeastClash (natives : List Native) (clash : Clash) : Type 0 where
  pub blame : Blame
  pub least : IsLeastSet (masks_of natives) blame
  pub named : clash.natives ≡ members_from blame.members 0 natives
  pub counters : clash.counters ≡ blame.counters

-- the conflict of a set with one more event, as a session gives it too, is the least, unless the natives take turns
abbrev pub ConflictIsLeast : Type 0
ConflictIsLeast = (book : Book) (e : EventRef) (s : AtRest) (clash : Clash)
    → All (λ n. n.allowed < 2 ^ 32) (natives_with book e s) → is_full book e s ≡ false → s.slice ≡ None
    → clash_with book e s ≡ Some clash → IsLeastClash (natives_with book e s) clash

-- and so is that of an event that is not added
abbrev pub AddConflictIsLeast : Type 0
AddConflictIsLeast = (book : Book) (e : EventRef) (s : AtRest) (clash : Clash)
    → All (λ n. n.allowed < 2 ^ 32) (natives_with book e s) → s.slice ≡ None
    → add_refusal book e s ≡ Some (Conflict clash) → IsLeastClash (natives_with book e s) clash
