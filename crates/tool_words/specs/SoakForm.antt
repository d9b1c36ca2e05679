-- The words of `papi_soak`, a tool of this project, in the words of `clap`: `N [--workers N]`.
use Rattle.std.specs.Prelude.{[], ◌∷◌, codes, refl}
use Rattle.tool_words.specs.declared.argument.Argument.TheVariants.{RoundCount, WorkerCount}
use Rattle.tool_words.specs.declared.soak.SoakWords.{SoakWords}
use Rattle.tool_words.specs.declared.soak.TheConstants.{MOST_ROUNDS}
use Rattle.tool_words.specs.declared.workers.TheConstants.{MOST_WORKERS}
use Rattle.tool_words.specs.Arguments.{rule}
use Rattle.tool_words.specs.Numbers.{count_in}
use Rattle.tool_words.specs.Words.{ToolForm, of_both}

-- the form of its words
unfoldable pub soak_form : ToolForm SoakWords
unfolding rule
soak_form = record {
  arguments = WorkerCount ∷ RoundCount ∷ [];
  asked = λ rows. of_both (λ rounds workers. record { rounds = rounds; workers = workers }) (count_in MOST_ROUNDS (codes "rounds") rows) (count_in MOST_WORKERS (codes "workers") rows);
  defined = refl;
}
