-- The list of a unit's native events: papi_native_avail(1); its lines are this project's own, docs/FORMATS.md.
use Rattle.std.specs.Prelude.{◌&&◌, ◌||◌, ℕ, Bool, true, false, not, List, [], ◌∷◌, ◌++◌, Option}
use Rattle.std.specs.Prelude.{if◌then◌else◌, codes, decimal, filter, length, nat_eq}
use Rattle.std.specs.List.{flat_map, starts_with, sum_by}
use Rattle.std.specs.Option.{option_map_or}
use Rattle.event_tables.specs.Tables.{ComponentText, EventText, MaskText}
use Rattle.papi_base.specs.Numerals.{is_empty}
use Rattle.tool_output.specs.Lines.{Text}

-- a text stands in another one, at its beginning or after the first byte
unfoldable pub stands_in : Text → Text → Bool
stands_in part [] = is_empty part
stands_in part (b ∷ rest) = starts_with nat_eq (b ∷ rest) part || stands_in part rest

-- `PMU::EVENT` as the tables spell them
abbrev pub full_name : Text → EventText → Text
full_name pmu event = pmu ++ (codes "::" ++ event.name)

-- the name contains the one text, if it is given, and does not contain the other, if that is given
abbrev pub is_chosen : Option Text → Option Text → Text → Bool
is_chosen included excluded name =
    option_map_or (λ part. stands_in part name) included true && not (option_map_or (λ part. stands_in part name) excluded false)

-- the events of a component that are listed
abbrev pub listed_events : Option Text → Option Text → ComponentText → List EventText
listed_events included excluded component = filter (λ event. is_chosen included excluded (full_name component.pmu event)) component.events

-- the mark of the default umask, which an event has if its text names none
abbrev pub default_mark : Bool → Text
default_mark is_default = if is_default then codes " [default]" else []

-- a umask, its description and its mark, further in than the event
abbrev pub umask_line : MaskText → Text
umask_line umask = codes "  :" ++ (umask.name ++ (codes "  " ++ (umask.text ++ (default_mark umask.preset_choice ++ 10 ∷ []))))

-- the umasks of an event in the unit's order, which `--noumasks` leaves out
abbrev pub umask_lines : Bool → List MaskText → Text
umask_lines umasks masks = if umasks then flat_map umask_line masks else []

-- the name and the description of an event, and its umasks if they are listed
abbrev pub named_lines : Bool → Text → EventText → Text
named_lines umasks name event = name ++ (codes "  " ++ (event.text ++ (10 ∷ umask_lines umasks event.masks)))

-- an event of a pmu, with its umasks
abbrev pub event_lines : Bool → Text → EventText → Text
event_lines umasks pmu event = named_lines umasks (full_name pmu event) event

-- the line above the events of a component: its name, its pmu, and how many counters it has
abbrev pub component_line : ComponentText → Text
component_line component =
    codes "Component " ++ (component.name ++ (codes ": pmu " ++ (component.pmu
    ++ (codes ", " ++ (decimal (length component.counters) ++ codes " counters\n")))))

-- the lines of the events of a component that are listed
abbrev pub listed_lines : Option Text → Option Text → Bool → ComponentText → Text
listed_lines included excluded umasks component = flat_map (event_lines umasks component.pmu) (listed_events included excluded component)

-- a component, and below it its events that are listed
abbrev pub component_lines : Option Text → Option Text → Bool → ComponentText → Text
component_lines included excluded umasks component = component_line component ++ listed_lines included excluded umasks component

-- how many events are listed
abbrev pub listed_count : Option Text → Option Text → List ComponentText → ℕ
listed_count included excluded tables = sum_by (λ component. length (listed_events included excluded component)) tables

-- each component with its listed events, and their number
unfoldable pub native_list : List ComponentText → Option Text → Option Text → Bool → Text
native_list tables included excluded umasks =
    flat_map (component_lines included excluded umasks) tables ++ (codes "Total events: " ++ (decimal (listed_count included excluded tables) ++ 10 ∷ []))
