-- What `papi_event_chooser` comes to: the events that can be added to given ones, after papi_event_chooser(1). The text is that of
-- docs/FORMATS.md.
use Rattle.std.specs.Prelude.{ℕ, List, Result, Ok}
use Rattle.tool_output.specs.Choosing.{all_taken, chooser_text}
use Rattle.tool_output.specs.declared.chooser.candidates.Candidates.{Candidates}
use Rattle.tool_output.specs.declared.chooser.candidates.Candidates.TheVariants as candidates
use Rattle.component_table.specs.Catalogs.{CatalogView}
use Rattle.tool_words.specs.declared.chooser.ChooserWords.{ChooserWords}
use Rattle.tool_words.specs.declared.chooser.EventKind.{EventKind}
use Rattle.tool_words.specs.declared.chooser.EventKind.TheVariants as kind
use Rattle.papi_tools.specs.Openings.{Openings, and_then}
use Rattle.papi_tools.specs.Contents.{catalog_under}
use Rattle.papi_tools.specs.Texts.{text_said}
use Rattle.papi_tools.specs.declared.refusal.Refusal.{Refusal}
use Rattle.papi_tools.specs.declared.said.Said.{Said}

-- the candidates of a kind
abbrev pub candidates_of : EventKind → Candidates
candidates_of kind.Native = candidates.Native
candidates_of kind.Preset = candidates.Preset

-- the events that can be added to the given ones; a given event that is refused is a no
abbrev pub choice_said : CatalogView → EventKind → List (List ℕ) → Said
choice_said catalog which events = text_said (all_taken catalog events) (chooser_text catalog (candidates_of which) events)

-- the unit, then the presets if they are asked for
unfoldable pub chooser_verdict : Openings → ChooserWords → Result Said Refusal
chooser_verdict openings words =
    and_then (catalog_under openings words.unit words.presets) (λ catalog. Ok (choice_said catalog words.kind words.events))
