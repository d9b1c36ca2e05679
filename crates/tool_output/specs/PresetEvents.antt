-- What is printed of one preset or user event: papi_avail(1); its lines are this project's own, docs/FORMATS.md.
use Rattle.std.specs.Prelude.{ℕ, List, [], ◌∷◌, ◌++◌, Option, Some, None, codes, decimal, length, slice_get}
use Rattle.std.specs.List.{flat_map, range_with_len}
use Rattle.std.specs.Option.{option_map_or}
use Rattle.component_table.specs.Books.{kind_of}
use Rattle.component_table.specs.Catalogs.{CatalogView, code_of_row, row_name, row_named}
use Rattle.event_tables.specs.Tables.{ComponentText}
use Rattle.name_encoder.specs.Canonical.{canonical}
use Rattle.papi_base.specs.declared.native.Native.{Native}
use Rattle.postfix_rules.specs.Presets.{entry}
use Rattle.postfix_rules.specs.Rules.{DerivedView}
use Rattle.postfix_rules.specs.Tokens.{formula_text}
use Rattle.postfix_rules.specs.declared.rule.Rule.{Rule}
use Rattle.postfix_rules.specs.declared.rule.Rule.TheVariants as rule
use Rattle.preset_csv.specs.Kinds.{kind_text}
use Rattle.tool_output.specs.Lines.{Text, code_line, name_line}

-- how the value is derived, in the word that a preset file has for it: papi_events.csv
abbrev pub type_line : Rule → Text
type_line r = codes "Derived: " ++ (kind_text (kind_of r) ++ 10 ∷ [])

-- the line of a formula, if the rule has one
abbrev pub formula_line : Rule → Text
formula_line rule.Plain = []
formula_line rule.Sum = []
formula_line rule.Sub = []
formula_line (rule.Postfix formula) = codes "Formula: " ++ (formula_text formula.tokens ++ 10 ∷ [])

-- the native event in a place from 0, by its canonical name
abbrev pub native_line : List ComponentText → List Native → ℕ → Text
native_line tables natives place =
    codes "Native " ++ (decimal place ++ (codes ": " ++ (option_map_or (canonical tables) (slice_get natives place) [] ++ 10 ∷ [])))

-- the lines of the native events in the event's order
abbrev pub native_lines : List ComponentText → List Native → Text
native_lines tables natives = flat_map (native_line tables natives) (range_with_len 0 (length natives))

-- that it is available, its type, its formula and its native events
abbrev pub derived_lines : List ComponentText → DerivedView → Text
derived_lines tables d = codes "Available: Yes\n" ++ (type_line d.rule ++ (formula_line d.rule ++ native_lines tables d.natives))

-- whether the unit has the native events of the preset or user event, and which they are
abbrev pub availability_lines : List ComponentText → Option DerivedView → Text
availability_lines tables None = codes "Available: No\n"
availability_lines tables (Some d) = derived_lines tables d

-- the event in a row of the catalog
abbrev pub row_lines : CatalogView → ℕ → Text
row_lines catalog row = name_line (row_name catalog row) ++ (code_line (code_of_row row) ++ availability_lines catalog.tables (entry catalog.book row))

-- what is printed of the event with this name: its row, or a line that says that there is no such event
unfoldable pub preset_event : CatalogView → Text → Text
preset_event catalog name = option_map_or (row_lines catalog) (row_named catalog name) (codes "No such event: " ++ (name ++ 10 ∷ []))
