-- What a caller sees of the tables.
use Rattle.std.specs.Prelude.{map, string_bytes}
use Rattle.event_tables.specs.Tables.{ComponentText, CounterText, EventText, MaskText}
use Rattle.event_tables.specs.declared.component.Component.{Component}
use Rattle.event_tables.specs.declared.component.Counter.{Counter}
use Rattle.event_tables.specs.declared.component.EventRow.{EventRow}
use Rattle.event_tables.specs.declared.component.UmaskRow.{UmaskRow}

-- a counter as a COUNTER row gives it: name, width, and whether it is fixed
abbrev pub counter_text : Counter → CounterText
counter_text k = record { name = string_bytes k.name; width = k.width; fixed = k.fixed }

-- a umask as a UMASK row gives it: name, bits, flags and description
abbrev pub mask_text : UmaskRow → MaskText
mask_text m = record { name = string_bytes m.name; bits = m.bits; preset_choice = m.preset_choice; alone = m.alone; text = string_bytes m.text; counters = m.counters; fixed = m.fixed }

-- an event as an EVENT row gives it, with the umasks of the rows below
abbrev pub event_text : EventRow → EventText
event_text e = record { name = string_bytes e.name; select = e.select; allowed = e.allowed; text = string_bytes e.text; masks = map mask_text e.masks.items }

-- a component as a COMPONENT row gives it, with its counters and events
abbrev pub component_text : Component → ComponentText
component_text c =
    record { name = string_bytes c.name; pmu = string_bytes c.pmu; counters = map counter_text c.counters.items; events = map event_text c.events.items }
