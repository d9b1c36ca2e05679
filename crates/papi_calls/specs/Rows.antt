-- What a unit's file says of its components and native events, row by row: PAPI_get_component_info(3), PAPI_enum_cmp_event(3).
use Rattle.std.specs.Prelude.{ℕ, List, ◌++◌, Option, Some, Result, Ok, Err, codes, option_map, slice_get}
use Rattle.std.specs.Option.{option_and_then, option_map_or}
use Rattle.event_tables.specs.Tables.{ComponentText, EventText, MaskText}
use Rattle.papi_base.specs.declared.code.Code.{Code}
use Rattle.papi_base.specs.declared.code.Code.TheVariants.{Enoevnt}
use Rattle.papi_base.specs.declared.native.EventRef.{EventRef}
use Rattle.papi_base.specs.declared.native.EventRef.TheVariants as event
use Rattle.papi_base.specs.declared.native.Native.{Native}
use Rattle.papi_calls.specs.declared.rows.ComponentPart.{ComponentPart}
use Rattle.papi_calls.specs.declared.rows.ComponentPart.TheVariants as component
use Rattle.papi_calls.specs.declared.rows.NativePart.{NativePart}
use Rattle.papi_calls.specs.declared.rows.NativePart.TheVariants as native
use Rattle.postfix_rules.specs.Presets.{Book, entry}
use Rattle.table_rows.specs.Texts.{Text}

-- a part of what a component's rows say
abbrev pub component_part : ComponentPart → ComponentText → Option Text
component_part component.Name c = Some c.name
component_part component.Pmu c = Some c.pmu
component_part (component.Counter place) c = option_map (λ k. k.name) (slice_get c.counters place)

-- the same of the component in a place
abbrev pub component_text : List ComponentText → ComponentPart → ℕ → Option Text
component_text tables part comp = option_and_then (component_part part) (slice_get tables comp)

-- an event as papi_native_avail(1) names it, `PMU::EVENT`
abbrev pub event_name : ComponentText → EventText → Text
event_name c e = c.pmu ++ (codes "::" ++ e.name)

-- an event with one of its umasks, `PMU::EVENT:UMASK`
abbrev pub mask_name : ComponentText → EventText → MaskText → Text
mask_name c e m = c.pmu ++ (codes "::" ++ (e.name ++ (codes ":" ++ m.name)))

-- a part of what an event's rows say
abbrev pub native_part : NativePart → ComponentText → EventText → Option Text
native_part native.Name c e = Some (event_name c e)
native_part native.Description c e = Some e.text
native_part (native.Mask place) c e = option_map (mask_name c e) (slice_get e.masks place)
native_part (native.MaskDescription place) c e = option_map (λ m. m.text) (slice_get e.masks place)

-- the same of the event in a row of a component
abbrev pub native_text : List ComponentText → NativePart → ℕ → ℕ → Option Text
native_text tables part comp row = option_and_then (λ c. option_and_then (native_part part c) (slice_get c.events row)) (slice_get tables comp)

-- the component of the first of these native events, which are all of one if an event derives from them
abbrev pub first_component : List Native → Result ℕ Code
first_component natives = option_map_or (λ n. Ok n.comp) (slice_get natives 0) (Err Enoevnt)

-- the component of an event, if it is available: PAPI_get_event_component(3)
abbrev pub component_of : Book → EventRef → Result ℕ Code
component_of book (event.Native n) = Ok n.comp
component_of book (event.Preset row) = option_map_or (λ d. first_component d.natives) (entry book row) (Err Enoevnt)

-- the row of a native event in its component
abbrev pub row_of : EventRef → Result ℕ Code
row_of (event.Native n) = Ok n.event
row_of (event.Preset row) = Err Enoevnt

-- what is asked of the event of a code, if there is one
abbrev pub of_event : (EventRef → Result ℕ Code) → Result EventRef Code → Result ℕ Code
of_event asked (Ok e) = asked e
of_event asked (Err code) = Err code
