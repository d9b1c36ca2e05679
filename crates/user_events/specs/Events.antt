-- What contracts see of a table of presets and user events, and what it keeps.
use Rattle.std.specs.Prelude.{◌≡◌, ◌≤◌, true, false, ⊤, List, [], length, map, string_bytes}
use Rattle.std.specs.List.{AllByRecursion}
use Rattle.std.specs.Str.{bytes_eq}
use Rattle.table_rows.specs.Tables.{NoTwo}
use Rattle.table_rows.specs.Texts.{Text}
use Rattle.preset_csv.specs.Tables.{IsEntry, IsTable, TableView, is_field}
use Rattle.preset_csv.specs.declared.entry.Entry.{Entry}
use Rattle.preset_csv.specs.declared.entry.Entry.TheVariants as entry
use Rattle.user_events.specs.Names.{is_event_name}
use Rattle.user_events.specs.declared.event.TheConstants.{MOST_USER_EVENTS}
use Rattle.user_events.specs.declared.event.UserEvent.{UserEvent}

-- a user event: its name, and what it is computed of
pub record EventView : Type 0 where
  pub name : Text
  pub entry : Entry

-- a user event: its name and its entry
abbrev pub event_view : UserEvent → EventView
event_view e = record { name = string_bytes e.name; entry = e.entry }

-- the presets for a cpu, and its user events in the order of their ranks
pub record ExtendedView : Type 0 where
  pub presets : TableView
  pub events : List EventView

-- an entry that a row gives; none gives a missing one
abbrev pub IsPresent : Entry → Type 0
IsPresent entry.Missing = ⊥
IsPresent e = ⊤

-- what each event of a table keeps
abbrev pub IsEvent : EventView → Type 0
IsEvent e = (is_event_name e.name ≡ true) × IsEntry e.entry × IsPresent e.entry

-- the names of some events
abbrev pub names_of : List EventView → List Text
names_of events = map (λ e. e.name) events

-- no text is one of those after it
abbrev pub Distinct : List Text → Type 0
Distinct texts = NoTwo bytes_eq texts

-- At most MOST_USER_EVENTS user events, none of them missing, of names that have their form and differ pairwise. None is read for a cpu whose name can
-- stand in no field.
pub record IsExtended (x : ExtendedView) : Type 0 where
  pub table : IsTable x.presets
  pub few : length x.events ≤ MOST_USER_EVENTS
  pub each : AllByRecursion IsEvent x.events
  pub distinct : Distinct (names_of x.events)
  pub named : is_field x.presets.cpu ≡ false → x.events ≡ []
