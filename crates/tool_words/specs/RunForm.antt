-- The words of `papi_run`, a tool of this project, in the words of `clap`:
-- `-U UNIT [-P PRESETS -C CPU] [--workers N] [--notes] SCRIPT [STREAM..]`.
use Rattle.std.specs.Prelude.{[], ◌∷◌, codes, option_map, refl}
use Rattle.clap.specs.Words.{first_of}
use Rattle.tool_words.specs.declared.argument.Argument.TheVariants.{Cpu, Notes, Presets, Script, Streams, Unit, WorkerCount}
use Rattle.tool_words.specs.declared.run.RunWords.{RunWords}
use Rattle.tool_words.specs.Arguments.{is_set, rule}
use Rattle.tool_words.specs.ScriptForm.{script_words_in}
use Rattle.tool_words.specs.Words.{ToolForm}

-- the form of its words
unfoldable pub run_form : ToolForm RunWords
unfolding rule
run_form = record {
  arguments = Unit ∷ Presets ∷ Cpu ∷ WorkerCount ∷ Notes ∷ Script ∷ Streams ∷ [];
  asked = λ rows. option_map (λ asked. record {
    unit = asked.unit;
    presets = asked.presets;
    workers = asked.workers;
    notes = is_set (first_of (codes "notes") rows);
    script = asked.script;
    streams = asked.streams;
  }) (script_words_in rows);
  defined = refl;
}
