-- The presets and user events of some rows and of one row more, with the group of cpus at the end of the rows.
use Rattle.std.specs.Prelude.{◌≡◌, Bool, List, [], ◌∷◌, Option, Some, None, Result, Ok, Err, if◌then◌else◌, not}
use Rattle.std.specs.Str.{bytes_eq}
use Rattle.table_rows.specs.Texts.{Text}
use Rattle.preset_csv.specs.Lines.{Derivation, Line, event, gives, preset}
use Rattle.preset_csv.specs.Presets.{cause_if}
use Rattle.preset_csv.specs.Steps as Presets
use Rattle.preset_csv.specs.declared.entry.Entry.{Entry}
use Rattle.preset_csv.specs.declared.fault.PresetCause.{PresetCause}
use Rattle.preset_csv.specs.declared.fault.PresetCause.TheVariants as cause
use Rattle.preset_csv.specs.declared.group.Group.{Group}
use Rattle.table_rows.specs.declared.fault.RowRefusal.{RowRefusal}
use Rattle.table_rows.specs.declared.fault.RowRefusal.TheVariants as refusal
use Rattle.user_events.specs.Entries.{event_judged}
use Rattle.user_events.specs.Events.{EventView, names_of}
use Rattle.user_events.specs.Rows.{named_entry}

-- the entry of a name, which may be a new one, at its place
abbrev pub put_event : List EventView → Text → Entry → List EventView
put_event [] name e = record { name = name; entry = e } ∷ []
put_event (x ∷ events) name e = if bytes_eq name x.name then record { name = x.name; entry = e } ∷ events else x ∷ put_event events name e

-- the events with what a row gives, unless it is refused
abbrev pub put_judged : List EventView → Text → Result Entry PresetCause → List EventView
put_judged events name (Ok e) = put_event events name e
put_judged events name (Err why) = events

-- the events with what an EVENT row gives, if its group holds the cpu
abbrev pub events_with : Bool → List EventView → Derivation → List EventView
events_with held events r = if held then put_judged events r.symbol (named_entry (names_of events) r) else events

-- why an EVENT row below these events is refused, if it is
abbrev pub event_cause : Bool → List EventView → Derivation → Option PresetCause
event_cause held events r = cause_if held (named_entry (names_of events) r)

-- the events with one row more
abbrev pub events_more : Group → List EventView → Line → List EventView
events_more g events (gives event r) = events_with g.holds events r
events_more g events line = events

-- why one row more is refused, if it is
abbrev pub cause_more : Group → List EventView → Line → Option PresetCause
cause_more g events (gives preset r) = Presets.cause_more event_judged g (gives preset r)
cause_more g events (gives event r) = if not g.begun then Some cause.NoCpu else event_cause g.holds events r
cause_more g events line = None

-- what the rows so far gave: the group of CPU rows at their end, the entries of the presets, and the user events
pub record Taking : Type 0 where
  pub group : Group
  pub entries : List Entry
  pub events : List EventView

-- what the rows gave, with one row more
abbrev pub IsMore : Text → Line → Taking → Taking → Type 0
IsMore name line old new =
    Presets.IsMore event_judged name line old.group old.entries new.group new.entries × (new.events ≡ events_more old.group old.events line)

-- the refusal of a row that adds one name too many, whatever it is judged
abbrev pub IsOverLimit : Result Entry (RowRefusal PresetCause) → RowRefusal PresetCause → Type 0
IsOverLimit (Err (refusal.Cause cause.NoCpu)) refused = refused ≡ refusal.Cause cause.NoCpu
IsOverLimit (Err (refusal.Cause cause.BadField)) refused = refused ≡ refusal.Cause cause.BadField
IsOverLimit (Err refusal.Memory) refused = refused ≡ refusal.Memory
IsOverLimit judged refused = refused ≡ refusal.Cause cause.OverLimit
