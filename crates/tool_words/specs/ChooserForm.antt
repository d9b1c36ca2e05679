-- The words of `papi_event_chooser`, after papi_event_chooser(1), in the words of `clap`:
-- `-U UNIT [-P PRESETS -C CPU] NATIVE EVENT..` or the same with `PRESET`.
use Rattle.std.specs.Prelude.{List, [], ◌∷◌, Option, Some, None, if◌then◌else◌, codes, length, nat_le, option_and_then, refl}
use Rattle.std.specs.Str.{bytes_eq}
use Rattle.clap.specs.Words.{Text, all_of, first_of}
use Rattle.papi_base.specs.declared.limits.TheConstants.{MOST_SET_EVENTS}
use Rattle.tool_words.specs.declared.argument.Argument.TheVariants.{Cpu, Events, Kind, Presets, Unit}
use Rattle.tool_words.specs.declared.chooser.ChooserWords.{ChooserWords}
use Rattle.tool_words.specs.declared.chooser.EventKind.{EventKind}
use Rattle.tool_words.specs.declared.chooser.EventKind.TheVariants.{Native, Preset}
use Rattle.tool_words.specs.declared.presets.PresetWords.{PresetWords}
use Rattle.tool_words.specs.Arguments.{rule}
use Rattle.tool_words.specs.Presets.{presets_asked_in}
use Rattle.tool_words.specs.Words.{ToolForm}

-- which events are listed: the word is in capitals
abbrev pub kind_of : Text → Option EventKind
kind_of word = if bytes_eq word (codes "NATIVE") then Some Native else if bytes_eq word (codes "PRESET") then Some Preset else None

-- the texts of events, which are not more than a set can have
abbrev pub few_events : List Text → Option (List Text)
few_events events = if nat_le (length events) MOST_SET_EVENTS then Some events else None

-- what the values of the arguments ask for
abbrev pub chooser_words : Option Text → Option (Option PresetWords) → Option EventKind → Option (List Text) → Option ChooserWords
chooser_words (Some unit) (Some presets) (Some kind) (Some events) =
    Some (record { unit = unit; presets = presets; kind = kind; events = events })
chooser_words _ _ _ _ = None

-- the form of its words
unfoldable pub chooser_form : ToolForm ChooserWords
unfolding rule
chooser_form = record {
  arguments = Unit ∷ Presets ∷ Cpu ∷ Kind ∷ Events ∷ [];
  asked = λ rows. chooser_words (first_of (codes "unit") rows) (presets_asked_in rows)
      (option_and_then kind_of (first_of (codes "kind") rows)) (option_and_then few_events (all_of (codes "events") rows));
  defined = refl;
}
