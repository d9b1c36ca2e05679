-- The arguments that the tools of this project have, in the words of `clap`.
use Rattle.std.specs.Prelude.{ℕ, Bool, true, false, [], ◌∷◌, Option, Some, None, codes, pos}
use Rattle.std.specs.Str.{bytes_eq}
use Rattle.clap.specs.Lexer.{usize_max}
use Rattle.clap.specs.Words.{Rule, Text, new_rule}
use Rattle.clap.specs.declared.builder.ArgAction.TheVariants.{Append, SetTrue}
use Rattle.clap.specs.declared.builder.value_parser.ValueParser.TheVariants as parser
use Rattle.tool_words.specs.declared.argument.Argument.{Argument}
use Rattle.tool_words.specs.declared.argument.Argument.TheVariants as argument
use Rattle.tool_words.specs.declared.profil.TheConstants.{LAST_INDEX, LAST_SET, LAST_THREAD}
use Rattle.tool_words.specs.declared.soak.TheConstants.{MOST_ROUNDS}
use Rattle.tool_words.specs.declared.workers.TheConstants.{MOST_WORKERS}

-- `-C VALUE`, by its character
abbrev pub option : Text → ℕ → Rule
option id short = record (new_rule id) { short = Some short }

-- `--NAME`, which takes no value
abbrev pub switch : Text → Rule
switch name = record (new_rule name) { long = Some name; action = Some SetTrue }

-- `NAME..`, n or more, between which options may stand
abbrev pub list : Text → ℕ → Rule
list id n = record (new_rule id) { action = Some Append; range = Some (record { start_inclusive = n; end_inclusive = usize_max }) }

-- `N`, from the least to the greatest
abbrev pub number : Text → ℕ → ℕ → Rule
number id least greatest = record (new_rule id) { parser = Some (parser.Signed (pos least) (pos greatest)) }

-- `--NAME N`, from 0 to the greatest, by default 0
abbrev pub place : Text → ℕ → Rule
place name greatest = record (number name 0 greatest) { long = Some name; defaults = codes "0" ∷ [] }

-- that must be given
abbrev needed : Rule → Rule
needed rule = record rule { required = true }

-- how `clap` takes an argument
unfoldable pub rule : Argument → Rule
rule argument.Unit = needed (option (codes "unit") 85)
rule argument.Presets = option (codes "presets") 80
rule argument.Cpu = option (codes "cpu") 67
rule argument.NeededPresets = needed (option (codes "presets") 80)
rule argument.NeededCpu = needed (option (codes "cpu") 67)
rule argument.Available = record (option (codes "available") 97) { action = Some SetTrue }
rule argument.Event = option (codes "event") 101
rule argument.Included = option (codes "included") 105
rule argument.Excluded = option (codes "excluded") 120
rule argument.NoUmasks = switch (codes "noumasks")
rule argument.Kind = needed (new_rule (codes "kind"))
rule argument.Events = needed (list (codes "events") 1)
rule argument.Names = needed (list (codes "names") 1)
rule argument.WorkerCount = record (number (codes "workers") 1 MOST_WORKERS) { long = Some (codes "workers"); defaults = codes "1" ∷ [] }
rule argument.RoundCount = needed (number (codes "rounds") 1 MOST_ROUNDS)
rule argument.Notes = switch (codes "notes")
rule argument.EventList = needed (record (new_rule (codes "events")) { long = Some (codes "events") })
rule argument.Map = needed (option (codes "map") 77)
rule argument.Thread = place (codes "thread") LAST_THREAD
rule argument.Set = place (codes "set") LAST_SET
rule argument.Index = place (codes "index") LAST_INDEX
rule argument.Script = needed (new_rule (codes "script"))
rule argument.Streams = list (codes "streams") 0

-- whether the value of a flag is there, and set
abbrev pub is_set : Option Text → Bool
is_set None = false
is_set (Some value) = bytes_eq value (codes "true")
