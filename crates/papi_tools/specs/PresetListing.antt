-- What `papi_avail` comes to: the presets and user events of a cpu, or one of them, after papi_avail(1). The text is that of docs/FORMATS.md.
use Rattle.std.specs.Prelude.{ℕ, Bool, true, List, Option, Some, None, is_some, Result, Ok}
use Rattle.component_table.specs.Catalogs.{CatalogView, row_named}
use Rattle.tool_output.specs.PresetEvents.{preset_event}
use Rattle.tool_output.specs.PresetLists.{preset_list}
use Rattle.tool_words.specs.declared.avail.AvailWords.{AvailWords}
use Rattle.papi_tools.specs.Openings.{Openings, and_then}
use Rattle.papi_tools.specs.Contents.{catalog_under}
use Rattle.papi_tools.specs.Texts.{text_said}
use Rattle.papi_tools.specs.declared.refusal.Refusal.{Refusal}
use Rattle.papi_tools.specs.declared.said.Said.{Said}

-- the list of the presets and user events, all of them or the available ones alone; or the event of a name, if one is asked for: a
-- name that none of them has is a no
abbrev pub presets_said : CatalogView → Bool → Option (List ℕ) → Said
presets_said catalog available None = text_said true (preset_list catalog available)
presets_said catalog available (Some name) = text_said (is_some (row_named catalog name)) (preset_event catalog name)

-- the unit, then the preset file
unfoldable pub avail_verdict : Openings → AvailWords → Result Said Refusal
avail_verdict openings words =
    and_then (catalog_under openings words.unit (Some words.presets)) (λ catalog. Ok (presets_said catalog words.available words.event))
