-- The presets that the words of a tool ask for: `-P PRESETS -C CPU`. What names a cpu is this project's
-- own: docs/FORMATS.md.
use Rattle.std.specs.Prelude.{◌&&◌, ◌||◌, ◌==◌, ◌-◌, ℕ, Bool, false, not, List}
use Rattle.std.specs.Prelude.{length, slice_index, nat_le, nat_lt, Option, Some, None, if◌then◌else◌, codes, option_and_then, option_map}
use Rattle.std.specs.List.{list_all}
use Rattle.clap.specs.Words.{Row, Text, first_of}
use Rattle.tool_words.specs.declared.presets.PresetWords.{PresetWords}
use Rattle.tool_words.specs.declared.presets.TheConstants.{LONGEST_CPU}

-- a character from a space to `~` that is not a comma
abbrev pub is_cpu_character : ℕ → Bool
is_cpu_character b = nat_le 32 b && nat_le b 126 && not (b == 44)

-- the name of a cpu: 1 to LONGEST_CPU such characters, and no space at either end
unfoldable pub is_cpu : Text → Bool
is_cpu name =
    if nat_lt (length name) 1 || nat_lt LONGEST_CPU (length name) then false
    else if (slice_index name 0 == 32) || (slice_index name (length name - 1) == 32) then false
    else list_all is_cpu_character name

-- the presets of a cpu, by a file
abbrev pub presets_of : Text → Text → Option PresetWords
presets_of file cpu = if is_cpu cpu then Some (record { file = file; cpu = cpu }) else None

-- the presets that are asked for, if they are: both a file and a cpu are given, or neither is
abbrev pub presets_asked : Option Text → Option Text → Option (Option PresetWords)
presets_asked None None = Some None
presets_asked (Some file) (Some cpu) = option_map Some (presets_of file cpu)
presets_asked _ _ = None

-- the same by the matches of the words
abbrev pub presets_asked_in : List Row → Option (Option PresetWords)
presets_asked_in rows = presets_asked (first_of (codes "presets") rows) (first_of (codes "cpu") rows)

-- the presets of a tool that needs them
abbrev pub presets_needed_in : List Row → Option PresetWords
presets_needed_in rows = option_and_then (λ presets. presets) (presets_asked_in rows)
