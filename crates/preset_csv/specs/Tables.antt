-- What contracts see of the presets for one cpu, and what they keep.
use Rattle.std.specs.Prelude.{◌≡◌, ◌&&◌, ◌==◌, Bool, false, not, ℕ, List, length, map}
use Rattle.std.specs.List.{AllByRecursion, list_all}
use Rattle.std.specs.Str.{bytes_eq}
use Rattle.table_rows.specs.Texts.{Text, trimmed}
use Rattle.preset_csv.specs.Symbols.{preset_count, preset_rows}
use Rattle.preset_csv.specs.Defs.{IsDef}
use Rattle.preset_csv.specs.declared.entry.Entry.{Entry}
use Rattle.preset_csv.specs.declared.entry.Entry.TheVariants as entry

-- the symbols of the preset table in its order
unfoldable pub symbols : List Text
symbols = map (λ r. r.symbol) preset_rows

-- the presets for a cpu: for each row of the preset table its entry
pub record TableView : Type 0 where
  pub cpu : Text
  pub rows : List Entry

-- what each entry keeps
abbrev pub IsEntry : Entry → Type 0
IsEntry (entry.Def d) = IsDef d
IsEntry e = Unit {0}

-- the file has no row for the preset
abbrev pub IsMissing : Entry → Type 0
IsMissing e = e ≡ entry.Missing

-- a byte of a field: no comma, and no end of a row
abbrev pub is_field_byte : ℕ → Bool
is_field_byte b = not (b == 44) && (not (b == 13) && not (b == 10))

-- a text that can stand in a field, with no blank at either end
unfoldable pub is_field : Text → Bool
is_field t = list_all is_field_byte t && bytes_eq (trimmed t) t

-- An entry for each row of the preset table. No row is read for a cpu whose name can stand in no field.
pub record IsTable (t : TableView) : Type 0 where
  pub all : length t.rows ≡ preset_count
  pub each : AllByRecursion IsEntry t.rows
  pub named : is_field t.cpu ≡ false → AllByRecursion IsMissing t.rows
