-- The words of `papi_avail`, after papi_avail(1), in the words of `clap`: `-U UNIT -P PRESETS -C CPU [-a] [-e NAME]`.
use Rattle.std.specs.Prelude.{[], ◌∷◌, codes, refl}
use Rattle.clap.specs.Words.{first_of}
use Rattle.tool_words.specs.declared.argument.Argument.TheVariants.{Available, Event, NeededCpu, NeededPresets, Unit}
use Rattle.tool_words.specs.declared.avail.AvailWords.{AvailWords}
use Rattle.tool_words.specs.Arguments.{is_set, rule}
use Rattle.tool_words.specs.Presets.{presets_needed_in}
use Rattle.tool_words.specs.Words.{ToolForm, of_both}

-- the form of its words
unfoldable pub avail_form : ToolForm AvailWords
unfolding rule
avail_form = record {
  arguments = Unit ∷ NeededPresets ∷ NeededCpu ∷ Available ∷ Event ∷ [];
  asked = λ rows. of_both (λ unit presets. record {
    unit = unit;
    presets = presets;
    available = is_set (first_of (codes "available") rows);
    event = first_of (codes "event") rows;
  }) (first_of (codes "unit") rows) (presets_needed_in rows);
  defined = refl;
}
