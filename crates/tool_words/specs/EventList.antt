-- The events that `--events LIST` names, this project's own: docs/FORMATS.md.
use Rattle.std.specs.Prelude.{◌&&◌, ◌==◌, ◌≡◌, ◌≤◌, ℕ, Bool, true, not, List, Option, Some, None, if◌then◌else◌, length, nat_le}
use Rattle.std.specs.List.{list_all, slice_split}
use Rattle.clap.specs.Words.{Text}
use Rattle.papi_base.specs.Numerals.{is_empty}
use Rattle.papi_base.specs.declared.limits.TheConstants.{MOST_SET_EVENTS}

-- from `!` to `~`
abbrev pub is_event_character : ℕ → Bool
is_event_character b = nat_le 33 b && nat_le b 126

-- one or more of these characters
abbrev pub is_event : Text → Bool
is_event event = not (is_empty event) && list_all is_event_character event

-- the texts between the commas of a list
unfoldable pub parts_of : Text → List Text
parts_of list = slice_split (λ b. b == 44) list

-- these, if each is an event and a set can have as many
abbrev pub events_among : List Text → Option (List Text)
events_among parts = if list_all is_event parts && nat_le (length parts) MOST_SET_EVENTS then Some parts else None

-- the events of a list
abbrev pub events_of : Text → Option (List Text)
events_of list = events_among (parts_of list)

-- one or more events, not more than a set can have
pub record AreEvents (events : List Text) : Type 0 where
  pub some : 1 ≤ length events
  pub few : length events ≤ MOST_SET_EVENTS
  pub each : list_all is_event events ≡ true
