-- The texts that are asked of a library: PAPI_get_event_info(3), PAPI_get_component_info(3), papi_native_avail(1).
use Rattle.std.specs.Prelude.{ℕ, ◌==◌, List, Option, Some, None, Result, Ok, Err, if◌then◌else◌}
use Rattle.papi_base.specs.declared.code.Code.{Code}
use Rattle.papi_base.specs.declared.code.Code.TheVariants.{Einval, Enoevnt}
use Rattle.papi_calls.specs.Codes.{event_coded, map_ok}
use Rattle.papi_calls.specs.Infos.{info_of}
use Rattle.papi_calls.specs.Libraries.{LibraryView}
use Rattle.papi_calls.specs.declared.infos.InfoPart.{InfoPart}
use Rattle.papi_calls.specs.declared.infos.InfoPart.TheVariants as part
use Rattle.papi_calls.specs.declared.rows.ComponentPart.{ComponentPart}
use Rattle.papi_calls.specs.declared.rows.ComponentPart.TheVariants as component
use Rattle.papi_calls.specs.declared.rows.NativePart.{NativePart}
use Rattle.papi_calls.specs.declared.rows.NativePart.TheVariants as native
use Rattle.papi_calls.specs.Rows.{component_text, native_text}

-- the part of a number, as kistalub.h has them; a native event is that in this place
abbrev pub part_numbered : ℕ → ℕ → Option InfoPart
part_numbered number place =
    if number == 0 then Some part.Name
    else if number == 1 then Some part.Description
    else if number == 2 then Some part.DerivedType
    else if number == 3 then Some part.Formula
    else if number == 4 then Some (part.Native place)
    else None

-- a part of what is told of the event of a code
abbrev pub info_asked : ℕ → Option InfoPart → LibraryView → Result (List ℕ) Code
info_asked code (Some p) l = map_ok (info_of l.catalog p) (event_coded l.catalog l.mentioned code)
info_asked code None l = Err Einval

-- what there is, or PAPI_ENOEVNT if there is no such row
abbrev pub or_no_event : {X : Type 0} → Option X → Result X Code
or_no_event (Some x) = Ok x
or_no_event None = Err Enoevnt

-- the part of a component that a number stands for, as kistalub.h has them; a counter is that in this place
abbrev pub component_part_numbered : ℕ → ℕ → Option ComponentPart
component_part_numbered number place =
    if number == 0 then Some component.Name
    else if number == 1 then Some component.Pmu
    else if number == 2 then Some (component.Counter place)
    else None

-- a part of what the unit's file says of a component: PAPI_get_component_info(3)
abbrev pub component_asked : ℕ → Option ComponentPart → LibraryView → Result (List ℕ) Code
component_asked comp (Some p) l = or_no_event (component_text l.catalog.tables p comp)
component_asked comp None l = Err Einval

-- the part of a native event that a number stands for, as kistalub.h has them; a umask is that in this place
abbrev pub native_part_numbered : ℕ → ℕ → Option NativePart
native_part_numbered number place =
    if number == 0 then Some native.Name
    else if number == 1 then Some native.Description
    else if number == 2 then Some (native.Mask place)
    else if number == 3 then Some (native.MaskDescription place)
    else None

-- a part of what the unit's file says of a native event by its row, in the order of papi_native_avail(1)
abbrev pub native_asked : ℕ → ℕ → Option NativePart → LibraryView → Result (List ℕ) Code
native_asked comp row (Some p) l = or_no_event (native_text l.catalog.tables p comp row)
native_asked comp row None l = Err Einval
