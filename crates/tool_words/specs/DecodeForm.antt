-- The words of `papi_decode`, a tool of this project, in the words of `clap`: `-U UNIT -P PRESETS -C CPU [-a]`.
use Rattle.std.specs.Prelude.{[], ◌∷◌, codes, refl}
use Rattle.clap.specs.Words.{first_of}
use Rattle.tool_words.specs.declared.argument.Argument.TheVariants.{Available, NeededCpu, NeededPresets, Unit}
use Rattle.tool_words.specs.declared.decode.DecodeWords.{DecodeWords}
use Rattle.tool_words.specs.Arguments.{is_set, rule}
use Rattle.tool_words.specs.Presets.{presets_needed_in}
use Rattle.tool_words.specs.Words.{ToolForm, of_both}

-- the form of its words
unfoldable pub decode_form : ToolForm DecodeWords
unfolding rule
decode_form = record {
  arguments = Unit ∷ NeededPresets ∷ NeededCpu ∷ Available ∷ [];
  asked = λ rows. of_both (λ unit presets. record { unit = unit; presets = presets; available = is_set (first_of (codes "available") rows) })
      (first_of (codes "unit") rows) (presets_needed_in rows);
  defined = refl;
}
