-- The words of `papi_encode`, a tool of this project, in the words of `clap`: `-U UNIT NAME..`.
use Rattle.std.specs.Prelude.{[], ◌∷◌, codes, refl}
use Rattle.clap.specs.Words.{all_of, first_of}
use Rattle.tool_words.specs.declared.argument.Argument.TheVariants.{Names, Unit}
use Rattle.tool_words.specs.declared.encode.EncodeWords.{EncodeWords}
use Rattle.tool_words.specs.Arguments.{rule}
use Rattle.tool_words.specs.Words.{ToolForm, of_both}

-- the form of its words
unfoldable pub encode_form : ToolForm EncodeWords
unfolding rule
encode_form = record {
  arguments = Unit ∷ Names ∷ [];
  asked = λ rows. of_both (λ unit names. record { unit = unit; names = names }) (first_of (codes "unit") rows) (all_of (codes "names") rows);
  defined = refl;
}
