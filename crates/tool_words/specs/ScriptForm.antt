-- What the words of every tool over a script ask for, in the words of `clap`:
-- `-U UNIT [-P PRESETS -C CPU] [--workers N] SCRIPT [STREAM..]`.
use Rattle.std.specs.Prelude.{ℕ, List, Option, Some, None, codes}
use Rattle.clap.specs.Words.{Row, Text, all_of, first_of}
use Rattle.tool_words.specs.declared.presets.PresetWords.{PresetWords}
use Rattle.tool_words.specs.declared.script.ScriptWords.{ScriptWords}
use Rattle.tool_words.specs.declared.workers.TheConstants.{MOST_WORKERS}
use Rattle.tool_words.specs.Numbers.{count_in}
use Rattle.tool_words.specs.Presets.{presets_asked_in}
use Rattle.tool_words.specs.Streams.{streams_asked}

-- what the values of the arguments ask for
abbrev pub script_words : Option Text → Option (Option PresetWords) → Option ℕ → Option Text → Option (List Text) → Option ScriptWords
script_words (Some unit) (Some presets) (Some workers) (Some script) (Some streams) =
    Some (record { unit = unit; presets = presets; workers = workers; script = script; streams = streams })
script_words _ _ _ _ _ = None

-- what the matches of the words ask for
unfoldable pub script_words_in : List Row → Option ScriptWords
script_words_in rows =
    script_words (first_of (codes "unit") rows) (presets_asked_in rows)
    (count_in MOST_WORKERS (codes "workers") rows) (first_of (codes "script") rows) (streams_asked (all_of (codes "streams") rows))
