-- The events that are looked at for a set: PAPI's papi_event_chooser(1), docs/FORMATS.md.
use Rattle.std.specs.Prelude.{ℕ, zero, suc, Bool, true, false, List, [], ◌∷◌, map, length, slice_get, if◌then◌else◌}
use Rattle.std.specs.List.{flat_map, range_with_len}
use Rattle.std.specs.Option.{option_map_or}
use Rattle.component_table.specs.Books.{is_available}
use Rattle.component_table.specs.Catalogs.{CatalogView, row_count}
use Rattle.event_tables.specs.Tables.{ComponentText, EventText, MaskText}
use Rattle.name_encoder.specs.Names.{Found, native_of}
use Rattle.papi_base.specs.declared.native.EventRef.{EventRef}
use Rattle.papi_base.specs.declared.native.EventRef.TheVariants as event
use Rattle.papi_base.specs.declared.native.Mods.{Mods}
use Rattle.postfix_rules.specs.Presets.{Book}
use Rattle.tool_output.specs.declared.chooser.candidates.Candidates.{Candidates}
use Rattle.tool_output.specs.declared.chooser.candidates.Candidates.TheVariants as which

-- ---- native events

-- a candidate has no modifiers: it counts in user and in kernel mode, without edge, inversion or counter mask
abbrev pub no_modifiers : Mods
no_modifiers = record { user = false; kernel = false; edge = false; invert = false; cmask = 0 }

-- for each umask of an event, whether it is the one in this row
abbrev pub alone : ℕ → List MaskText → List Bool
alone row [] = []
alone zero (m ∷ masks) = true ∷ map (λ m. false) masks
alone (suc row) (m ∷ masks) = false ∷ alone row masks

-- the native event of the umask in a row alone
abbrev pub with_umask : Found → ℕ → EventRef
with_umask f row = event.Native (native_of f (alone row f.event.masks) no_modifiers)

-- an event without umasks alone, or with one umask alone for each that it has
abbrev pub natives_by : Found → List MaskText → List EventRef
natives_by f [] = event.Native (native_of f [] no_modifiers) ∷ []
natives_by f (m ∷ masks) = map (with_umask f) (range_with_len 0 (length (m ∷ masks)))

-- the candidates of one event: itself, or one for each of its umasks
abbrev pub natives_of_event : Found → List EventRef
natives_of_event f = natives_by f f.event.masks

-- an event in a row of a component
abbrev pub found : ℕ → ℕ → ComponentText → EventText → Found
found comp row c e = record { comp = comp; row = row; component = c; event = e }

-- the candidates of the event in a row of a component
abbrev pub natives_in_row : ℕ → ComponentText → ℕ → List EventRef
natives_in_row comp c row = option_map_or (λ e. natives_of_event (found comp row c e)) (slice_get c.events row) []

-- those of a component, event by event
unfoldable pub natives_of_component : ℕ → ComponentText → List EventRef
natives_of_component comp c = flat_map (natives_in_row comp c) (range_with_len 0 (length c.events))

-- the candidates of the component in a place of the unit
abbrev pub natives_at : List ComponentText → ℕ → List EventRef
natives_at tables comp = option_map_or (natives_of_component comp) (slice_get tables comp) []

-- ---- presets and user events

-- the preset or user event in a row, if it is available
abbrev pub preset_in : Book → ℕ → List EventRef
preset_in book row = if is_available book row then event.Preset row ∷ [] else []

-- ---- candidates

-- in the order of the tables, and user events after the presets
unfoldable pub candidates : CatalogView → Candidates → List EventRef
candidates catalog which.Native = flat_map (natives_at catalog.tables) (range_with_len 0 (length catalog.tables))
candidates catalog which.Preset = flat_map (preset_in catalog.book) (range_with_len 0 (row_count catalog))
