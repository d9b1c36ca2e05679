-- The words of `papi_native_avail`, after papi_native_avail(1), in the words of `clap`: `-U UNIT [-e NAME] [-i STR] [-x STR] [--noumasks]`.
use Rattle.std.specs.Prelude.{not, [], ◌∷◌, codes, option_map, refl}
use Rattle.clap.specs.Words.{first_of}
use Rattle.tool_words.specs.declared.argument.Argument.TheVariants.{Event, Excluded, Included, NoUmasks, Unit}
use Rattle.tool_words.specs.declared.native_avail.NativeAvailWords.{NativeAvailWords}
use Rattle.tool_words.specs.Arguments.{is_set, rule}
use Rattle.tool_words.specs.Words.{ToolForm}

-- the form of its words
unfoldable pub native_avail_form : ToolForm NativeAvailWords
unfolding rule
native_avail_form = record {
  arguments = Unit ∷ Event ∷ Included ∷ Excluded ∷ NoUmasks ∷ [];
  asked = λ rows. option_map (λ unit. record {
    unit = unit;
    event = first_of (codes "event") rows;
    included = first_of (codes "included") rows;
    excluded = first_of (codes "excluded") rows;
    umasks = not (is_set (first_of (codes "noumasks") rows));
  }) (first_of (codes "unit") rows);
  defined = refl;
}
