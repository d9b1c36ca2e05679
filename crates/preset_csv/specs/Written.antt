-- The text of a table of presets: papi_events.csv.
use Rattle.std.specs.Prelude.{◌≡◌, List, [], ◌∷◌, ◌++◌, Option, Some, None, codes}
use Rattle.table_rows.specs.Rows.{rows_text}
use Rattle.table_rows.specs.Texts.{Text}
use Rattle.postfix_rules.specs.Faults.{FormulaView}
use Rattle.postfix_rules.specs.Tokens.{formula_text}
use Rattle.preset_csv.specs.Defs.{DefView}
use Rattle.preset_csv.specs.Kinds.{kind_text}
use Rattle.preset_csv.specs.Presets.{preset_fault, presets_in}
use Rattle.preset_csv.specs.Tables.{TableView, symbols}
use Rattle.preset_csv.specs.declared.entry.Entry.{Entry}
use Rattle.preset_csv.specs.declared.entry.Entry.TheVariants as entry

-- the field of a formula, if there is one
abbrev pub formula_fields : Option FormulaView → List Text
formula_fields None = []
formula_fields (Some f) = formula_text f.tokens ∷ []

-- the type, the formula if there is one, and the natives
abbrev pub def_fields : DefView → List Text
def_fields d = kind_text d.kind ∷ (formula_fields d.formula ++ d.natives)

-- the row of an entry after this word and this name, and none of a missing one
abbrev pub rows_of_entry : Text → Text → Entry → List (List Text)
rows_of_entry word name entry.Missing = []
rows_of_entry word name entry.Uncomputed = (word ∷ name ∷ codes "DERIVED_CMPD" ∷ []) ∷ []
rows_of_entry word name (entry.Def d) = (word ∷ name ∷ def_fields d) ∷ []

-- the PRESET row of a symbol and its entry, and none of a missing one
abbrev pub entry_rows : Text → Entry → List (List Text)
entry_rows symbol e = rows_of_entry (codes "PRESET") symbol e

-- the rows of some symbols and their entries
unfoldable pub rows_of_entries : List Text → List Entry → List (List Text)
rows_of_entries [] entries = []
rows_of_entries (s ∷ rest) [] = []
rows_of_entries (s ∷ rest) (e ∷ entries) = entry_rows s e ++ rows_of_entries rest entries

-- the cpu's row, and a row for each entry that is not missing
unfoldable pub table_text : TableView → Text
table_text t = rows_text ((codes "CPU" ∷ t.cpu ∷ []) ∷ rows_of_entries symbols t.rows)

-- bytes read back, under a table's cpu, as the table
abbrev pub ReadsBack : Text → TableView → Type 0
ReadsBack bytes t = (preset_fault t.cpu bytes ≡ None) × (presets_in t.cpu bytes ≡ t)
