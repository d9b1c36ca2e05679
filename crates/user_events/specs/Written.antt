-- The text of a table of presets and user events: papi_events.csv.
use Rattle.std.specs.Prelude.{◌≡◌, List, [], ◌∷◌, ◌++◌, None, codes}
use Rattle.table_rows.specs.Rows.{rows_text}
use Rattle.table_rows.specs.Texts.{Text}
use Rattle.preset_csv.specs.Written.{rows_of_entry, table_text}
use Rattle.preset_csv.specs.declared.entry.Entry.{Entry}
use Rattle.user_events.specs.Events.{EventView, ExtendedView}
use Rattle.user_events.specs.Rows.{extended_fault, extended_in}

-- the EVENT row of a name and its entry, and none of a missing one
abbrev pub named_rows : Text → Entry → List (List Text)
named_rows name e = rows_of_entry (codes "EVENT") name e

-- the rows of the user events, in the order of their ranks
unfoldable pub event_rows : List EventView → List (List Text)
event_rows [] = []
event_rows (e ∷ rest) = named_rows e.name e.entry ++ event_rows rest

-- the text of the presets, and a row for each user event
unfoldable pub extended_text : ExtendedView → Text
extended_text x = table_text x.presets ++ rows_text (event_rows x.events)

-- bytes read back, under the cpu of a table, as the table
abbrev pub ReadsBack : Text → ExtendedView → Type 0
ReadsBack bytes x = (extended_fault x.presets.cpu bytes ≡ None) × (extended_in x.presets.cpu bytes ≡ x)
