-- What is printed of one native event: papi_native_avail(1); its lines are this project's own, docs/FORMATS.md.
use Rattle.std.specs.Prelude.{◌==◌, ℕ, List, [], ◌∷◌, ◌++◌, Result, Ok, Err, codes, filter, length, slice_get}
use Rattle.std.specs.Int.{bit_at}
use Rattle.std.specs.List.{flat_map, range_with_len}
use Rattle.std.specs.Option.{option_map_or}
use Rattle.event_tables.specs.Tables.{ComponentText, CounterText}
use Rattle.name_encoder.specs.Canonical.{canonical, code64}
use Rattle.name_encoder.specs.Names.{names, word_of}
use Rattle.name_encoder.specs.declared.fault.NameFault.{NameFault}
use Rattle.papi_base.specs.declared.native.Native.{Native}
use Rattle.tool_output.specs.Lines.{Text, code_line, name_line}

-- a space and the name of the counter in a place
abbrev pub counter_text : List CounterText → ℕ → Text
counter_text counters place = 32 ∷ option_map_or (λ counter. counter.name) (slice_get counters place) []

-- the places of the counters whose bits are set, in the table's order
abbrev pub allowed_places : List CounterText → ℕ → List ℕ
allowed_places counters allowed = filter (λ place. bit_at allowed place == 1) (range_with_len 0 (length counters))

-- the counters that may count the event, each after a space
abbrev pub counters_text : List CounterText → ℕ → Text
counters_text counters allowed = flat_map (counter_text counters) (allowed_places counters allowed)

-- the counters of the component in a place of the unit
abbrev pub counters_of : List ComponentText → ℕ → List CounterText
counters_of tables comp = option_map_or (λ component. component.counters) (slice_get tables comp) []

-- on which counters of its component the native event can be counted
abbrev pub counters_line : List ComponentText → Native → Text
counters_line tables native = codes "Counters:" ++ (counters_text (counters_of tables native.comp) native.allowed ++ 10 ∷ [])

-- the canonical name, the code of 64 bits and the counters
abbrev pub native_lines : List ComponentText → Native → Text
native_lines tables native = name_line (canonical tables native) ++ (code_line (code64 native) ++ counters_line tables native)

-- the native event, or the cause and the name that was given
abbrev pub encoding_lines : List ComponentText → Text → Result Native NameFault → Text
encoding_lines tables name (Ok native) = native_lines tables native
encoding_lines tables name (Err fault) = word_of fault ++ (codes ": " ++ (name ++ 10 ∷ []))

-- the event that a text names
unfoldable pub native_event : List ComponentText → Text → Text
native_event tables name = encoding_lines tables name (names tables name)
