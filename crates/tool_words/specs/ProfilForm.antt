-- The words of `papi_profil`, a tool of this project after PAPI_profil(3), in the words of `clap`:
-- `-U UNIT -M MAP [-P PRESETS -C CPU] [--thread T] [--set S] [--index I] [--workers N] SCRIPT [STREAM..]`.
use Rattle.std.specs.Prelude.{ℕ, [], ◌∷◌, Option, Some, None, codes, refl}
use Rattle.clap.specs.Words.{Text, first_of}
use Rattle.tool_words.specs.declared.argument.Argument.TheVariants.{Cpu, Index, Map, Presets, Script, Set, Streams, Thread, Unit, WorkerCount}
use Rattle.tool_words.specs.declared.profil.ProfilWords.{ProfilWords}
use Rattle.tool_words.specs.declared.script.ScriptWords.{ScriptWords}
use Rattle.tool_words.specs.Arguments.{rule}
use Rattle.tool_words.specs.Numbers.{number_of}
use Rattle.tool_words.specs.ScriptForm.{script_words_in}
use Rattle.tool_words.specs.Words.{ToolForm}

-- what a tool over a script asks for, the map, and whose notes are counted
abbrev pub profil_words : Option ScriptWords → Option Text → Option ℕ → Option ℕ → Option ℕ → Option ProfilWords
profil_words (Some asked) (Some map) (Some thread) (Some set) (Some index) =
    Some (record {
      unit = asked.unit;
      map = map;
      presets = asked.presets;
      thread = thread;
      set = set;
      index = index;
      workers = asked.workers;
      script = asked.script;
      streams = asked.streams;
    })
profil_words _ _ _ _ _ = None

-- the form of its words
unfoldable pub profil_form : ToolForm ProfilWords
unfolding rule
profil_form = record {
  arguments = Unit ∷ Map ∷ Presets ∷ Cpu ∷ Thread ∷ Set ∷ Index ∷ WorkerCount ∷ Script ∷ Streams ∷ [];
  asked = λ rows. profil_words (script_words_in rows) (first_of (codes "map") rows) (number_of (codes "thread") rows) (number_of (codes "set") rows)
      (number_of (codes "index") rows);
  defined = refl;
}
