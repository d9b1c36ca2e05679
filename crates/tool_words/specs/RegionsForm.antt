-- The words of `papi_regions`, a tool of this project after PAPI_hl_region_begin(3), in the words of `clap`:
-- `-U UNIT [-P PRESETS -C CPU] --events LIST [--workers N] REGIONS [STREAM..]`.
use Rattle.std.specs.Prelude.{[], ◌∷◌, codes, option_and_then, refl}
use Rattle.clap.specs.Words.{first_of}
use Rattle.tool_words.specs.declared.argument.Argument.TheVariants.{Cpu, EventList, Presets, Script, Streams, Unit, WorkerCount}
use Rattle.tool_words.specs.declared.regions.RegionsWords.{RegionsWords}
use Rattle.tool_words.specs.Arguments.{rule}
use Rattle.tool_words.specs.EventList.{events_of}
use Rattle.tool_words.specs.ScriptForm.{script_words_in}
use Rattle.tool_words.specs.Words.{ToolForm, of_both}

-- the form of its words
unfoldable pub regions_form : ToolForm RegionsWords
unfolding rule
regions_form = record {
  arguments = Unit ∷ Presets ∷ Cpu ∷ EventList ∷ WorkerCount ∷ Script ∷ Streams ∷ [];
  asked = λ rows. of_both (λ asked events. record {
    unit = asked.unit;
    presets = asked.presets;
    events = events;
    workers = asked.workers;
    script = asked.script;
    streams = asked.streams;
  }) (script_words_in rows) (option_and_then events_of (first_of (codes "events") rows));
  defined = refl;
}
