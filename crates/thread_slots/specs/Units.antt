-- What is programmed on the unit of each component.
use Rattle.std.specs.Prelude.{ℕ, ◌+◌, if◌then◌else◌, List, [], ◌∷◌, length, replicate, Option, Some, None}
use Rattle.std.specs.Option.{option_and_then}
use Rattle.papi_base.specs.declared.occurrence.Occ.{Occ}
use Rattle.counter_unit.specs.declared.registers.Register.{Register}
use Rattle.counter_unit.specs.Counting.{UnitView}
use Rattle.postfix_rules.specs.Presets.{Book}
use Rattle.event_sets.specs.AtRest.{Widths}
use Rattle.session_model.specs.Account.{Kept}
use Rattle.session_model.specs.Counts.{count}
use Rattle.session_model.specs.Faces.{Face, faces_of, at, runs_on}
use Rattle.thread_slots.specs.Pinned.{pins_of, programs}

-- a unit on which nothing is programmed
abbrev pub empty_unit : List ℕ → UnitView
empty_unit widths = record { widths = widths; registers = replicate (length widths) None }

-- the number of the first set that runs on the component, if the list begins at this number
abbrev pub owner_from : ℕ → ℕ → List (Option Face) → Option ℕ
owner_from comp number [] = None
owner_from comp number (place ∷ places) = if runs_on (Some comp) place then Some number else owner_from comp (number + 1) places

-- the set that runs on the component, if one does
abbrev pub runner : ℕ → List (Option Kept) → Option Kept
runner comp sets = option_and_then (at sets) (owner_from comp 0 (faces_of sets))

-- the registers of a running set: its pins', unless its natives take turns
abbrev pub running_registers : Book → List ℕ → List Occ → Kept → Option ℕ → List (Option Register)
running_registers book widths past s None = programs widths s.set.domain (count past s) (pins_of book s.set) (replicate (length widths) None)
running_registers book widths past s (Some slice) = replicate (length widths) None

-- if no set runs, nothing is programmed
abbrev pub registers_by : Book → List ℕ → List Occ → Option Kept → List (Option Register)
registers_by book widths past None = replicate (length widths) None
registers_by book widths past (Some s) = running_registers book widths past s s.set.slice

-- the unit of a component
abbrev pub unit_at : Book → List Occ → List (Option Kept) → ℕ → List ℕ → UnitView
unit_at book past sets comp widths = record { widths = widths; registers = registers_by book widths past (runner comp sets) }

-- the units of the components from this one on
abbrev pub units_from : Book → List Occ → List (Option Kept) → ℕ → Widths → List UnitView
units_from book past sets comp [] = []
units_from book past sets comp (widths ∷ rest) = unit_at book past sets comp widths ∷ units_from book past sets (comp + 1) rest

-- the units of all components
abbrev pub units_of : Book → Widths → List Occ → List (Option Kept) → List UnitView
units_of book shape past sets = units_from book past sets 0 shape
