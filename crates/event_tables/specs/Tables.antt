-- The tables of a unit file, as lists and texts: what the file format of this project's unit files states.
use Rattle.std.specs.Prelude.{ℕ, Bool, List, map, Option, slice_get}
use Rattle.std.specs.List.{position_from}
use Rattle.std.specs.Option.{option_and_then}
use Rattle.std.specs.Str.{bytes_eq, str_eq_ignore_ascii_case, str_to_ascii_lowercase}
use Rattle.table_rows.specs.Texts.{Text}
use Rattle.event_tables.specs.declared.component.FixedMods.{FixedMods}

-- a umask of an event: its bits of the umask byte, whether it is the default one, whether it cannot be combined, its description, the counters that can count it as bits
-- if not all of its event can, and the modifiers that it fixes if it fixes one: Intel's event tables have its counters, the modhw of libpfm4's tables its modifiers
pub record MaskText : Type 0 where
  pub name : Text
  pub bits : ℕ
  pub preset_choice : Bool
  pub alone : Bool
  pub text : Text
  pub counters : Option ℕ
  pub fixed : Option FixedMods

-- an event: its select code, the counters that can count it as bits, its description and its umasks
pub record EventText : Type 0 where
  pub name : Text
  pub select : ℕ
  pub allowed : ℕ
  pub text : Text
  pub masks : List MaskText

-- a counter: its width in bits, and whether it is a fixed one
pub record CounterText : Type 0 where
  pub name : Text
  pub width : ℕ
  pub fixed : Bool

-- a component: its name and that of its pmu, its counters and its events
pub record ComponentText : Type 0 where
  pub name : Text
  pub pmu : Text
  pub counters : List CounterText
  pub events : List EventText

-- names are equal, without regard to ASCII case
abbrev pub same_name : Text → Text → Bool
same_name a b = str_eq_ignore_ascii_case a b

-- the row of the event whose name in lower case is this
abbrev pub row_of_lower : List EventText → Text → Option ℕ
row_of_lower events lower = position_from (λ e. bytes_eq (str_to_ascii_lowercase e.name) lower) 0 events

-- the row of the event in the component whose name in lower case is this
abbrev pub event_of_lower : List ComponentText → ℕ → Text → Option ℕ
event_of_lower tables comp lower = option_and_then (λ c. row_of_lower c.events lower) (slice_get tables comp)

-- the event in a row of a component, and a counter of a component, if there are such
abbrev pub event_at : List ComponentText → ℕ → ℕ → Option EventText
event_at tables comp row = option_and_then (λ c. slice_get c.events row) (slice_get tables comp)

-- a counter of a component, if they are there
abbrev pub counter_at : List ComponentText → ℕ → ℕ → Option CounterText
counter_at tables comp k = option_and_then (λ c. slice_get c.counters k) (slice_get tables comp)

-- the first component of this name
abbrev pub component_of_name : List ComponentText → Text → Option ℕ
component_of_name tables name = position_from (λ c. same_name c.name name) 0 tables

-- the widths of each component's counters
abbrev pub widths_of : ComponentText → List ℕ
widths_of c = map (λ k. k.width) c.counters

-- the widths of all counters, component by component
abbrev pub shape_of : List ComponentText → List (List ℕ)
shape_of tables = map widths_of tables
