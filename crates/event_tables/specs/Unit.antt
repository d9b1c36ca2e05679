-- The tables of a unit file's rows, and the first fault. The file format is this project's own.
use Rattle.std.specs.Prelude.{◌≡◌, ◌==◌, ◌&&◌, ◌||◌, ◌-◌, ◌^◌, ℕ, Bool, List, [], ◌∷◌, ◌++◌, length, map, Option, Some, None, Result}
use Rattle.std.specs.Prelude.{is_some, unwrap_or, if◌then◌else◌, nat_le, slice_get, codes}
use Rattle.std.specs.List.{fold, list_all, list_any, position_from}
use Rattle.std.specs.Option.{option_map_or}
use Rattle.std.specs.Str.{bytes_eq}
use Rattle.std.specs.Int.RustNames.{bit_or}
use Rattle.table_rows.specs.Rows.{rows_of}
use Rattle.table_rows.specs.Tables.{ReadsTable, first_fault}
use Rattle.table_rows.specs.Texts.{Text}
use Rattle.event_tables.specs.Lines.{Line, skipped, bad, component, counter, event, umask, umask_counters, umask_modifiers, line_of}
use Rattle.event_tables.specs.Tables.{ComponentText, CounterText, EventText, MaskText, same_name}
use Rattle.event_tables.specs.declared.component.FixedMods.{FixedMods}
use Rattle.event_tables.specs.declared.fault.RowCause.{RowCause}
use Rattle.event_tables.specs.declared.fault.RowCause.TheVariants as cause
use Rattle.table_rows.specs.declared.fault.RowFault.{RowFault}
use Rattle.event_tables.specs.declared.tables.Tables.{Tables}
use Rattle.papi_base.specs.declared.limits.TheConstants.{MOST_COMPONENTS, MOST_COUNTERS}
use Rattle.event_tables.specs.declared.limits.TheConstants.{MOST_COMPONENT_EVENTS, MOST_UMASKS}

-- ---- the tables of some rows: each row under the row to which it belongs

-- the counter that a row gives
abbrev pub counter_row : Text → Option ℕ → Bool → CounterText
counter_row name width fixed = record { name = name; width = unwrap_or width 0; fixed = fixed }

-- the place of a counter, by its exact name
abbrev pub counter_place : List CounterText → Text → Option ℕ
counter_place counters name = position_from (λ k. bytes_eq k.name name) 0 counters

-- the counter in a place as one bit of a set of counters, and no bit if the unit does not have it
abbrev pub place_bit : Option ℕ → ℕ
place_bit None = 0
place_bit (Some p) = 2 ^ p

-- the counters of these names, as bits
abbrev pub bits_of : List CounterText → List Text → ℕ
bits_of counters names = fold (λ bits name. bit_or bits (place_bit (counter_place counters name))) 0 names

-- the event that a row gives, with its umasks
abbrev pub event_row : List CounterText → Text → ℕ → List Text → Text → List MaskText → EventText
event_row counters name select names text masks = record { name = name; select = select; allowed = bits_of counters names; text = text; masks = masks }

-- a list with its last item changed
unfoldable pub on_last : {X : Type 0} → (X → X) → List X → List X
on_last f [] = []
on_last f (x ∷ []) = f x ∷ []
on_last f (x ∷ y ∷ rest) = x ∷ on_last f (y ∷ rest)

-- the umask that the counters of these bits alone can count
abbrev pub restricted : ℕ → MaskText → MaskText
restricted bits m = record m { counters = Some bits }

-- the umask that fixes these modifiers
abbrev pub fixing : FixedMods → MaskText → MaskText
fixing f m = record m { fixed = Some f }

-- the umasks of an event with those of the rows up to the next event or component, if `above` are the counters above them: a row of a umask's counters or modifiers is of the
-- last umask above it
unfoldable pub masks_in : List CounterText → List MaskText → List Line → List MaskText
masks_in above masks [] = masks
masks_in above masks (component name pmu ∷ rest) = masks
masks_in above masks (counter name width fixed ∷ rest) = masks_in (above ++ counter_row name width fixed ∷ []) masks rest
masks_in above masks (event name select names text ∷ rest) = masks
masks_in above masks (umask m ∷ rest) = masks_in above (masks ++ m ∷ []) rest
masks_in above masks (umask_counters names ∷ rest) = masks_in above (on_last (restricted (bits_of above names)) masks) rest
masks_in above masks (umask_modifiers f ∷ rest) = masks_in above (on_last (fixing f) masks) rest
masks_in above masks (line ∷ rest) = masks_in above masks rest

-- the counters of the rows up to the next component
unfoldable pub counters_in : List Line → List CounterText
counters_in [] = []
counters_in (component name pmu ∷ rest) = []
counters_in (counter name width fixed ∷ rest) = counter_row name width fixed ∷ counters_in rest
counters_in (line ∷ rest) = counters_in rest

-- the events of the rows up to the next component, if `above` are the counters of the component above them
unfoldable pub events_in : List CounterText → List Line → List EventText
events_in above [] = []
events_in above (component name pmu ∷ rest) = []
events_in above (counter name width fixed ∷ rest) = events_in (above ++ counter_row name width fixed ∷ []) rest
events_in above (event name select names text ∷ rest) = event_row above name select names text (masks_in above [] rest) ∷ events_in above rest
events_in above (line ∷ rest) = events_in above rest

-- the component that a row gives, with what the rows below it give
abbrev pub component_of : Text → Text → List Line → ComponentText
component_of name pmu rest = record { name = name; pmu = pmu; counters = counters_in rest; events = events_in [] rest }

-- the components, each with the rows below it up to the next one
unfoldable pub components_in : List Line → List ComponentText
components_in [] = []
components_in (component name pmu ∷ rest) = component_of name pmu rest ∷ components_in rest
components_in (line ∷ rest) = components_in rest

-- ---- the cause of a row, in view of the tables of the rows above it; the causes are tried in the order of `RowCause`

-- why a COMPONENT row is refused below these components, if it is
abbrev pub component_cause : List ComponentText → Text → Text → Option RowCause
component_cause above name pmu =
    if nat_le MOST_COMPONENTS (length above) then Some cause.OverLimit
    else if list_any (λ c. same_name c.name name || same_name c.pmu pmu) above then Some cause.RepeatedName
    else None

-- why a COUNTER row is refused below these counters, if it is
abbrev pub counter_cause : List CounterText → Text → Option ℕ → Option RowCause
counter_cause above name width =
    if nat_le MOST_COUNTERS (length above) then Some cause.OverLimit
    else if list_any (λ k. bytes_eq k.name name) above then Some cause.RepeatedName
    else if is_some width then None
    else Some cause.BadWidth

-- why an EVENT row is refused in this component, if it is
abbrev pub event_cause : ComponentText → Text → List Text → Option RowCause
event_cause above name names =
    if nat_le MOST_COMPONENT_EVENTS (length above.events) then Some cause.OverLimit
    else if list_any (λ e. same_name e.name name) above.events then Some cause.RepeatedName
    else if list_all (λ n. is_some (counter_place above.counters n)) names then None
    else Some cause.UnknownCounter

-- `u`, `k`, `i`, `c` and `e` are the modifiers of event names
abbrev pub modifier_words : List Text
modifier_words = codes "u" ∷ codes "k" ∷ codes "e" ∷ codes "i" ∷ codes "c" ∷ []

-- the name is that of a modifier: `u`, `k`, `e`, `i` or `c`
abbrev pub is_modifier : Text → Bool
is_modifier name = list_any (λ w. same_name name w) modifier_words

-- a umask of this name, which may be a default one, below others of its event
abbrev pub mask_cause : List MaskText → Text → Bool → Option RowCause
mask_cause above name preset_choice =
    if preset_choice && list_any (λ o. o.preset_choice) above then Some cause.BadRow
    else if nat_le MOST_UMASKS (length above) then Some cause.OverLimit
    else if is_modifier name || list_any (λ o. same_name o.name name) above then Some cause.RepeatedName
    else None

-- the last item, if there is one
abbrev pub last_of : {X : Type 0} → List X → Option X
last_of xs = slice_get xs (length xs - 1)

-- why a UMASK row is refused in this component, if it is
abbrev pub inner_mask_cause : ComponentText → Text → Bool → Option RowCause
inner_mask_cause above name preset_choice = option_map_or (λ e. mask_cause e.masks name preset_choice) (last_of above.events) (Some cause.BadRow)

-- each of these bits is one of the others
abbrev pub within : ℕ → ℕ → Bool
within bits others = bit_or bits others == others

-- why a UMASK_COUNTERS row below this event is refused, if it is: there is no umask above it, the umask has its counters already, or a counter in the row is unknown or none of the event's
abbrev pub mask_counters_cause : List CounterText → EventText → List Text → Option RowCause
mask_counters_cause counters e names =
    option_map_or (λ m. if is_some m.counters then Some cause.BadRow
    else if list_all (λ n. is_some (counter_place counters n)) names && within (bits_of counters names) e.allowed then None
    else Some cause.UnknownCounter) (last_of e.masks) (Some cause.BadRow)

-- why a UMASK_MODIFIERS row is refused below this event, if it is: its umask has its modifiers already
abbrev pub mask_modifiers_cause : EventText → Option RowCause
mask_modifiers_cause e = option_map_or (λ m. if is_some m.fixed then Some cause.BadRow else None) (last_of e.masks) (Some cause.BadRow)

-- the same in this component
abbrev pub inner_counters_cause : ComponentText → List Text → Option RowCause
inner_counters_cause above names = option_map_or (λ e. mask_counters_cause above.counters e names) (last_of above.events) (Some cause.BadRow)

-- why a UMASK_MODIFIERS row is refused in this component, if it is
abbrev pub inner_modifiers_cause : ComponentText → Option RowCause
inner_modifiers_cause above = option_map_or mask_modifiers_cause (last_of above.events) (Some cause.BadRow)

-- why a row that belongs to this component is refused, if it is
abbrev pub inner_cause : ComponentText → Line → Option RowCause
inner_cause above (counter name width fixed) = counter_cause above.counters name width
inner_cause above (event name select names text) = event_cause above name names
inner_cause above (umask m) = inner_mask_cause above m.name m.preset_choice
inner_cause above (umask_counters names) = inner_counters_cause above names
inner_cause above (umask_modifiers f) = inner_modifiers_cause above
inner_cause above line = None

-- why a row is refused below these components, if it is: one that is not a component belongs to the last of them
unfoldable pub cause_in : List ComponentText → Line → Option RowCause
cause_in above skipped = None
cause_in above bad = Some cause.BadRow
cause_in above (component name pmu) = component_cause above name pmu
cause_in above line = option_map_or (λ c. inner_cause c line) (last_of above) (Some cause.BadRow)

-- the cause of a row below these rows, if it has one
abbrev pub row_cause : List Line → Line → Option RowCause
row_cause above line = cause_in (components_in above) line

-- what each row of a unit file says
abbrev pub lines_of : List ℕ → List Line
lines_of bytes = map line_of (rows_of bytes)

-- ---- what a caller gets

-- the first faulty row of a unit file, from 1, and its first cause
unfoldable pub unit_fault : List ℕ → Option (ℕ × RowCause)
unit_fault bytes = first_fault row_cause [] (lines_of bytes)

-- the tables of a unit file that has no faulty row
unfoldable pub unit_tables : List ℕ → List ComponentText
unit_tables bytes = components_in (lines_of bytes)

-- the tables if no row is faulty, or the first fault, or out of memory
abbrev pub ReadsUnit : Result Tables (RowFault RowCause) → List ℕ → Type 0
ReadsUnit result bytes = ReadsTable (unit_fault bytes) (λ tables. tables ≡ unit_tables bytes) result

-- a cause as it is written on the line that names it
abbrev pub cause_text : RowCause → Text
cause_text cause.BadRow = codes "bad row"
cause_text cause.OverLimit = codes "over a limit"
cause_text cause.RepeatedName = codes "repeated name"
cause_text cause.BadWidth = codes "width out of range"
cause_text cause.UnknownCounter = codes "unknown counter"
