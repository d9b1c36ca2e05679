-- The presets and user events of a file for one cpu, and its first fault: papi_events.csv.
use Rattle.std.specs.Prelude.{◌≡◌, ◌&&◌, ℕ, Bool, true, false, not, List, [], ◌∷◌, ◌++◌, length, map, fold, Option, Some}
use Rattle.std.specs.Prelude.{None, Result, Err, if◌then◌else◌, nat_le}
use Rattle.std.specs.List.{list_any}
use Rattle.std.specs.Str.{bytes_eq}
use Rattle.table_rows.specs.Tables.{ReadsTable, first_fault}
use Rattle.table_rows.specs.Texts.{Text}
use Rattle.preset_csv.specs.Lines.{Derivation, Line, event, gives, preset}
use Rattle.preset_csv.specs.Presets as Presets
use Rattle.preset_csv.specs.Presets.{cause_if, entry_of, has_cpu, holds, presets, read_from, rows_if}
use Rattle.preset_csv.specs.declared.entry.Entry.{Entry}
use Rattle.preset_csv.specs.declared.fault.PresetCause.{PresetCause}
use Rattle.preset_csv.specs.declared.fault.PresetCause.TheVariants as cause
use Rattle.table_rows.specs.declared.fault.RowFault.{RowFault}
use Rattle.user_events.specs.Entries.{event_judged}
use Rattle.user_events.specs.Events.{EventView, ExtendedView}
use Rattle.user_events.specs.Lines.{lines_of}
use Rattle.user_events.specs.Names.{is_event_name}
use Rattle.user_events.specs.declared.event.TheConstants.{MOST_USER_EVENTS}
use Rattle.user_events.specs.declared.extended.Extended.{Extended}

-- ---- the rows that are read

-- what one row below these adds to the EVENT rows that are read
abbrev pub event_read : Text → List Line → Line → List Derivation
event_read name above (gives event r) = rows_if (holds name above) r
event_read name above line = []

-- the EVENT rows that are read for a cpu
abbrev pub events_read : Text → List Line → List Derivation
events_read name lines = read_from (event_read name) [] lines

-- ---- the entries

-- the name is one of these
abbrev pub among : Text → List Text → Bool
among name names = list_any (λ n. bytes_eq name n) names

-- the names with that of one row more, each once
abbrev pub name_added : List Text → Derivation → List Text
name_added names r = if among r.symbol names then names else names ++ r.symbol ∷ []

-- the names of EVENT rows, in the order of their first rows
unfoldable pub names_in : List Derivation → List Text
names_in rows = fold name_added [] rows

-- the event of a name: the entry of its last row
abbrev pub event_of : List Derivation → Text → EventView
event_of rows name = record { name = name; entry = entry_of event_judged rows name }

-- the events of some rows, in the order of their first rows
abbrev pub events_of : List Derivation → List EventView
events_of rows = map (event_of rows) (names_in rows)

-- ---- the first fault

-- one name too many takes precedence over a broken formula, and a bad field over both
abbrev pub limited : Bool → Result Entry PresetCause → Result Entry PresetCause
limited false judgement = judgement
limited true (Err cause.NoCpu) = Err cause.NoCpu
limited true (Err cause.BadField) = Err cause.BadField
limited true judged = Err cause.OverLimit

-- the name is new, and there are as many as there may be
abbrev pub is_too_many : List Text → Text → Bool
is_too_many names name = not (among name names) && nat_le MOST_USER_EVENTS (length names)

-- the entry of an EVENT row below others with these names, or its first cause
abbrev pub named_entry : List Text → Derivation → Result Entry PresetCause
named_entry names r = if is_event_name r.symbol then limited (is_too_many names r.symbol) (event_judged r) else Err cause.BadField

-- the cause of a row below these rows
abbrev pub line_cause : Text → List Line → Line → Option PresetCause
line_cause name above (gives preset r) = Presets.line_cause event_judged name above (gives preset r)
line_cause name above (gives event r) =
    if not (has_cpu above) then Some cause.NoCpu
    else cause_if (holds name above) (named_entry (names_in (events_read name above)) r)
line_cause name above line = None

-- ---- what a caller gets

-- the first faulty row of a preset file, from 1, and its first cause
unfoldable pub extended_fault : Text → List ℕ → Option (ℕ × PresetCause)
extended_fault name bytes = first_fault (line_cause name) [] (lines_of bytes)

-- the presets and user events for a cpu in a file that has no faulty row
unfoldable pub extended_in : Text → List ℕ → ExtendedView
extended_in name bytes =
    record { presets = record { cpu = name; rows = presets event_judged name (lines_of bytes) }; events = events_of (events_read name (lines_of bytes)) }

-- these if no row is faulty, or the first fault, or out of memory
abbrev pub ReadsExtended : Result Extended (RowFault PresetCause) → List ℕ → Text → Type 0
ReadsExtended result bytes name = ReadsTable (extended_fault name bytes) (λ x. x ≡ extended_in name bytes) result
