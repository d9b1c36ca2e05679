-- The names of user events.
use Rattle.std.specs.Prelude.{◌&&◌, ◌||◌, ◌==◌, ℕ, Bool, not, nat_le, length, take, codes}
use Rattle.std.specs.List.{list_all}
use Rattle.std.specs.Str.{bytes_eq}
use Rattle.table_rows.specs.Texts.{Text}
use Rattle.user_events.specs.declared.event.TheConstants.{LONGEST_EVENT_NAME}

-- a letter, a digit or `_`
abbrev pub is_event_byte : ℕ → Bool
is_event_byte b = (nat_le 48 b && nat_le b 57) || ((nat_le 65 b && nat_le b 90) || ((nat_le 97 b && nat_le b 122) || (b == 95)))

-- from 1 to LONGEST_EVENT_NAME letters, digits and `_`, and no beginning `PAPI_`, by which the presets are known
unfoldable pub is_event_name : Text → Bool
is_event_name t = nat_le 1 (length t) && (nat_le (length t) LONGEST_EVENT_NAME && (list_all is_event_byte t && not (bytes_eq (take 5 t) (codes "PAPI_"))))
