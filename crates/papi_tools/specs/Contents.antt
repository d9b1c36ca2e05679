-- What files by name hold: docs/FORMATS.md.
use Rattle.std.specs.Prelude.{ℕ, List, Option, Some, None, Result, Ok, Err}
use Rattle.event_tables.specs.Tables.{ComponentText}
use Rattle.event_tables.specs.Unit.{unit_fault, unit_tables}
use Rattle.profil_hist.specs.Maps.{map_fault, map_ranges}
use Rattle.profil_hist.specs.Ranges.{RangeText}
use Rattle.region_report.specs.Scripts.{regions_of}
use Rattle.region_report.specs.declared.regions.RegionLine.{RegionLine}
use Rattle.script_lines.specs.ByLine.{Refused}
use Rattle.script_lines.specs.Scripts.{script_of}
use Rattle.script_lines.specs.declared.script.ScriptLine.{ScriptLine}
use Rattle.tool_words.specs.declared.presets.PresetWords.{PresetWords}
use Rattle.user_events.specs.Events.{ExtendedView}
use Rattle.user_events.specs.Rows.{extended_fault, extended_in}
use Rattle.papi_tools.specs.Openings.{Openings, and_then, file_bytes, opened}
use Rattle.papi_tools.specs.declared.limits.TheConstants.{SCRIPT_BYTES, TABLE_BYTES}
use Rattle.papi_tools.specs.declared.refusal.FileCause.{FileCause}
use Rattle.papi_tools.specs.declared.refusal.FileCause.TheVariants as cause
use Rattle.papi_tools.specs.declared.refusal.Refusal.{Refusal}
use Rattle.papi_tools.specs.declared.refusal.Refusal.TheVariants.{Faulty}
use Rattle.component_table.specs.Catalogs.{CatalogView, catalog_of}

-- what a file of this name holds, by what its bytes are; its opening is the next one
abbrev pub content_under : {A : Type 0} → ℕ → (List ℕ → List ℕ → Result A Refusal) → Openings → List ℕ → Result A Refusal
content_under limit content openings name = and_then (file_bytes limit openings name) (content name)

-- ---- tables

-- what the rows of a file of this name give, if none of them is faulty
abbrev pub rows_unless : {A C : Type 0} → (C → FileCause) → List ℕ → Option (ℕ × C) → A → Result A Refusal
rows_unless kind name None given = Ok given
rows_unless kind name (Some fault) given = Err (Faulty name fault.0 (kind fault.1))

-- what the bytes of a unit file of this name are
unfoldable pub unit_of : List ℕ → List ℕ → Result (List ComponentText) Refusal
unit_of name bytes = rows_unless cause.Row name (unit_fault bytes) (unit_tables bytes)

-- the tables of the unit file of this name
abbrev pub unit_under : Openings → List ℕ → Result (List ComponentText) Refusal
unit_under openings name = content_under TABLE_BYTES unit_of openings name

-- what the bytes of a map of this name are
unfoldable pub map_of : List ℕ → List ℕ → Result (List RangeText) Refusal
map_of name bytes = rows_unless cause.MapRow name (map_fault bytes) (map_ranges bytes)

-- the ranges of the map of this name
abbrev pub map_under : Openings → List ℕ → Result (List RangeText) Refusal
map_under openings name = content_under TABLE_BYTES map_of openings name

-- what the bytes of a preset file are for a cpu: its presets and user events
unfoldable pub presets_of : PresetWords → List ℕ → Result ExtendedView Refusal
presets_of words bytes = rows_unless cause.PresetRow words.file (extended_fault words.cpu bytes) (extended_in words.cpu bytes)

-- the presets, if they are asked for
abbrev pub presets_asked : Openings → Option PresetWords → Result (Option ExtendedView) Refusal
presets_asked openings None = Ok None
presets_asked openings (Some words) =
    and_then (file_bytes TABLE_BYTES openings words.file) (λ bytes. and_then (presets_of words bytes) (λ presets. Ok (Some presets)))

-- the openings after that of the presets, if they are asked for
abbrev pub after_presets : Option PresetWords → Openings → Openings
after_presets None openings = openings
after_presets (Some words) openings = opened openings

-- ---- scripts

-- the lines of a script of this name, if none of them is faulty
abbrev pub lines_unless : {A C : Type 0} → (C → FileCause) → List ℕ → Result A (Refused C) → Result A Refusal
lines_unless kind name (Ok lines) = Ok lines
lines_unless kind name (Err refused) = Err (Faulty name refused.line (kind refused.cause))

-- what the bytes of a script of this name are
abbrev pub script_in : List ℕ → List ℕ → Result (List ScriptLine) Refusal
script_in name bytes = lines_unless cause.Line name (script_of bytes)

-- the lines of the script of this name
abbrev pub script_under : Openings → List ℕ → Result (List ScriptLine) Refusal
script_under openings name = content_under SCRIPT_BYTES script_in openings name

-- what the bytes of a region script of this name are
abbrev pub regions_in : List ℕ → List ℕ → Result (List RegionLine) Refusal
regions_in name bytes = lines_unless cause.RegionLine name (regions_of bytes)

-- the lines of the region script of this name
abbrev pub regions_under : Openings → List ℕ → Result (List RegionLine) Refusal
regions_under openings name = content_under SCRIPT_BYTES regions_in openings name

-- ---- the tables of a tool

-- the catalog of these tables, with the presets that are asked for
abbrev pub catalog_with : List ComponentText → Option PresetWords → Openings → Result CatalogView Refusal
catalog_with tables presets openings = and_then (presets_asked openings presets) (λ asked. Ok (catalog_of tables asked))

-- the catalog of the unit of this name, with the presets that are asked for
unfoldable pub catalog_under : Openings → List ℕ → Option PresetWords → Result CatalogView Refusal
catalog_under openings unit presets = and_then (unit_under openings unit) (λ tables. catalog_with tables presets (opened openings))

-- the files after the unit and the presets that are asked for
abbrev pub after_tables : Option PresetWords → Openings → Openings
after_tables presets openings = after_presets presets (opened openings)
