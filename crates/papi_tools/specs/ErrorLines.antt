-- The lines on standard error, each with its newline: this project's own, docs/FORMATS.md.
use Rattle.std.specs.Prelude.{ℕ, List, ◌++◌, codes}
use Rattle.std.specs.Fmt.{decimal}
use Rattle.event_tables.specs.Unit as Unit
use Rattle.preset_csv.specs.Presets as Presets
use Rattle.profil_hist.specs.Maps as Maps
use Rattle.region_report.specs.Causes as Regions
use Rattle.script_lines.specs.Causes as Causes
use Rattle.papi_tools.specs.declared.status.Outcome.{Outcome}
use Rattle.papi_tools.specs.declared.status.Outcome.TheVariants as outcome
use Rattle.papi_tools.specs.declared.refusal.Refusal.{Refusal}
use Rattle.papi_tools.specs.declared.refusal.Refusal.TheVariants.{BadWords, NoSuchFile, CannotRead, TooLarge, Faulty}
use Rattle.papi_tools.specs.declared.refusal.FileCause.{FileCause}
use Rattle.papi_tools.specs.declared.refusal.FileCause.TheVariants.{Row, PresetRow, MapRow, Line, RegionLine}

-- what such a file has: rows or lines
abbrev pub place_of : FileCause → List ℕ
place_of (Line cause) = codes "line"
place_of (RegionLine cause) = codes "line"
place_of _ = codes "row"

-- the words of the cause
abbrev pub words_of : FileCause → List ℕ
words_of (Row cause) = Unit.cause_text cause
words_of (PresetRow cause) = Presets.cause_text cause
words_of (MapRow cause) = Maps.cause_text cause
words_of (Line cause) = Causes.text_of cause
words_of (RegionLine cause) = Regions.text_of cause

-- the line of a refusal: of a row or a line of a file it has the place and the cause
abbrev pub line_of : Refusal → List ℕ
line_of BadWords = codes "papi: bad words\n"
line_of (NoSuchFile name) = codes "papi: no such file: " ++ (name ++ codes "\n")
line_of (CannotRead name) = codes "papi: cannot read: " ++ (name ++ codes "\n")
line_of (TooLarge name) = codes "papi: " ++ (name ++ codes ": too large\n")
line_of (Faulty name number cause) =
    codes "papi: " ++ (name ++ (codes ": " ++ (place_of cause ++ (codes " " ++ (decimal number ++ (codes ": " ++ (words_of cause ++ codes "\n")))))))

-- how a call ends that is refused so
abbrev pub outcome_of : Refusal → Outcome
outcome_of (CannotRead name) = outcome.ReadFault
outcome_of _ = outcome.Refused
