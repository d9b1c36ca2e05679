-- What the rows of a preset file with user events gave so far.
use Rattle.std.specs.Prelude.{◌≡◌, ◌≤◌, List, length, map}
use Rattle.std.specs.List.{AllByRecursion}
use Rattle.table_rows.specs.Texts.{Text}
use Rattle.preset_csv.specs.Lines.{Line}
use Rattle.preset_csv.specs.Reading as Presets
use Rattle.user_events.specs.Entries.{event_judged}
use Rattle.user_events.specs.Events.{EventView, IsEvent, event_view}
use Rattle.user_events.specs.Rows.{events_of, events_read}
use Rattle.user_events.specs.Steps.{Taking}
use Rattle.user_events.specs.declared.event.TheConstants.{MOST_USER_EVENTS}
use Rattle.user_events.specs.declared.reading.WithEvents.{WithEvents}

-- what the rows so far gave, as callers see it
abbrev pub taking : WithEvents → Taking
taking t = record { group = t.presets.group; entries = t.presets.entries.items; events = map event_view t.events.items }

-- events of their form, and not too many
pub record IsKept (events : List EventView) : Type 0 where
  pub few : length events ≤ MOST_USER_EVENTS
  pub each : AllByRecursion IsEvent events

-- the group of CPU rows at the end of these rows, and the presets and user events that they give for a cpu
pub record GivePresetsAndEvents (name : Text) (lines : List Line) (s : Taking) : Type 0 where
  pub presets : Presets.GivePresets event_judged name lines s.group s.entries
  pub events : s.events ≡ events_of (events_read name lines)
  pub kept : IsKept s.events
