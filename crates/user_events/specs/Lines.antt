-- The rows of a preset file that has user events too.
use Rattle.std.specs.Prelude.{ℕ, List, map, if◌then◌else◌, codes}
use Rattle.std.specs.Str.{str_eq_ignore_ascii_case}
use Rattle.table_rows.specs.Rows.{rows_of}
use Rattle.table_rows.specs.Texts.{Text, text_at}
use Rattle.preset_csv.specs.Lines as Presets
use Rattle.preset_csv.specs.Lines.{Line, derivation_of, event, gives}

-- A row of some fields, by its first one, without regard to ASCII case: an EVENT row, whose name stands in a preset's symbol's place, or a row of a
-- file of presets alone.
unfoldable pub line_of : List Text → Line
line_of fields =
    if str_eq_ignore_ascii_case (text_at fields 0) (codes "EVENT") then gives event (derivation_of fields)
    else Presets.line_of fields

-- what each row of such a file says
abbrev pub lines_of : List ℕ → List Line
lines_of bytes = map line_of (rows_of bytes)
