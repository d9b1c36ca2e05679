-- The tables of some rows and of one row more.
use Rattle.std.specs.Prelude.{⊤, ◌≡◌, ◌<◌, IfSome, length, false, List, [], ◌∷◌, ◌++◌}
use Rattle.event_tables.specs.Lines.{Line, component, counter, event, umask, umask_counters, umask_modifiers}
use Rattle.std.specs.List.{list_any}
use Rattle.event_tables.specs.Tables.{ComponentText, CounterText, EventText, MaskText, same_name}
use Rattle.event_tables.specs.Unit.{bits_of, component_of, counter_row, event_row, fixing, last_of, on_last, restricted}

-- a component with one counter or one event more, and an event with one umask more
abbrev pub with_counter : CounterText → ComponentText → ComponentText
with_counter k c = record c { counters = c.counters ++ k ∷ [] }

-- the component with one event more
abbrev pub with_event : EventText → ComponentText → ComponentText
with_event e c = record c { events = c.events ++ e ∷ [] }

-- the event with one umask more
abbrev pub with_mask : MaskText → EventText → EventText
with_mask m e = record e { masks = e.masks ++ m ∷ [] }

-- the component whose last event has one umask more
abbrev pub with_inner_mask : MaskText → ComponentText → ComponentText
with_inner_mask m c = record c { events = on_last (with_mask m) c.events }

-- the event with its last umask changed
abbrev pub on_last_mask : (MaskText → MaskText) → EventText → EventText
on_last_mask f e = record e { masks = on_last f e.masks }

-- the component with the last umask of its last event changed
abbrev pub with_last_mask : (MaskText → MaskText) → ComponentText → ComponentText
with_last_mask f c = record c { events = on_last (on_last_mask f) c.events }

-- a component with a row of its own, that is not a component
abbrev pub grown : Line → ComponentText → ComponentText
grown (counter name width fixed) c = with_counter (counter_row name width fixed) c
grown (event name select names text) c = with_event (event_row c.counters name select names text []) c
grown (umask m) c = with_inner_mask m c
grown (umask_counters names) c = with_last_mask (restricted (bits_of c.counters names)) c
grown (umask_modifiers f) c = with_last_mask (fixing f) c
grown line c = c

-- there is an event, and the last one has a umask
abbrev pub HasMask : ComponentText → Type 0
HasMask c = (0 < length c.events) × IfSome (last_of c.events) (λ e. 0 < length e.masks)

-- an event has a new name, a umask has an event above it, and its counters and modifiers have a umask above them
abbrev pub CanGrow : Line → ComponentText → Type 0
CanGrow (event name select names text) c = list_any (λ e. same_name e.name name) c.events ≡ false
CanGrow (umask m) c = 0 < length c.events
CanGrow (umask_counters names) c = HasMask c
CanGrow (umask_modifiers f) c = HasMask c
CanGrow line c = ⊤

-- the components with one row more
abbrev pub with_line : List ComponentText → Line → List ComponentText
with_line above (component name pmu) = above ++ component_of name pmu [] ∷ []
with_line above line = on_last (grown line) above
