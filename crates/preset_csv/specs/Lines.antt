-- What one row of a preset file says, by itself: papi_events.csv.
use Rattle.std.specs.Prelude.{ℕ, List, [], ◌∷◌, map, drop, Option, if◌then◌else◌, codes}
use Rattle.std.specs.Str.{str_eq_ignore_ascii_case}
use Rattle.csv.specs.Records.{fields_of}
use Rattle.table_rows.specs.Rows.{rows_of}
use Rattle.table_rows.specs.Texts.{Text, text_at, trimmed}
use Rattle.preset_csv.specs.Defs.{ends_natives}
use Rattle.preset_csv.specs.Kinds.{has_formula, type_of}
use Rattle.preset_csv.specs.declared.kind.DerivedType.{DerivedType}
use Rattle.preset_csv.specs.declared.row.Row.{Row}
use Rattle.preset_csv.specs.declared.row.Row.TheVariants as row

-- what a row derives, of which type, and from which natives, up to their end
pub record Derivation : Type 0 where
  pub symbol : Text
  pub derived_type : Option DerivedType
  pub formula : Text
  pub natives : List Text

-- the word that begins a row that derives an entry: that of a preset's symbol, or that of a user event's name
pub data Word : Type 0 where
  preset : Word
  event : Word

-- a row by its kind; one that is passed over is of another kind. EVENT rows are told only where user events are read.
pub data Line : Type 0 where
  other : Line
  cpu : Text → Line
  gives : Word → Derivation → Line

-- the fields up to the first that ends the natives
unfoldable pub natives_in : List Text → List Text
natives_in [] = []
natives_in (t ∷ rest) = if ends_natives t then [] else t ∷ natives_in rest

-- the natives of a row from a field on
abbrev pub natives_from : List Text → ℕ → List Text
natives_from fields first = natives_in (map trimmed (drop first fields))

-- what a row of this derived type derives; a field that is not there is taken as an empty one
abbrev pub derivation : List Text → Option DerivedType → Derivation
derivation fields t = record {
  symbol = text_at fields 1;
  derived_type = t;
  formula = if has_formula t then text_at fields 3 else [];
  natives = if has_formula t then natives_from fields 4 else natives_from fields 3;
}

-- what a PRESET row with these fields says
unfoldable pub derivation_of : List Text → Derivation
derivation_of fields = derivation fields (type_of (text_at fields 2))

-- a row of some fields, by its first one, without regard to ASCII case
unfoldable pub line_of : List Text → Line
line_of fields =
    if str_eq_ignore_ascii_case (text_at fields 0) (codes "CPU") then cpu (text_at fields 1)
    else if str_eq_ignore_ascii_case (text_at fields 0) (codes "PRESET") then gives preset (derivation_of fields)
    else other

-- what each row of a preset file says
abbrev pub lines_of : List ℕ → List Line
lines_of bytes = map line_of (rows_of bytes)

-- what a row that was read says
abbrev pub row_line : Row → Line
row_line row.Other = other
row_line (row.Cpu name) = cpu name.now
row_line (row.Preset r) = gives preset (derivation_of (fields_of r.now))
row_line (row.Event r) = gives event (derivation_of (fields_of r.now))
