-- The list of the presets and the user events: papi_avail(1); its columns are this project's own, docs/FORMATS.md.
use Rattle.std.specs.Prelude.{◌||◌, ℕ, Bool, true, false, not, List, [], ◌∷◌, ◌++◌, if◌then◌else◌, codes, decimal, filter, nat_lt}
use Rattle.std.specs.List.{count_by, flat_map, range_with_len}
use Rattle.component_table.specs.Books.{is_available, is_derived}
use Rattle.component_table.specs.Catalogs.{CatalogView, code_of_row, row_count, row_name}
use Rattle.postfix_rules.specs.Presets.{Book}
use Rattle.preset_csv.specs.Symbols.{description_at, preset_count}
use Rattle.tool_output.specs.Lines.{Text, column, hex_text}

-- an entry of the columns `Avail` and `Deriv`
abbrev pub yes_or_no : Bool → Text
yes_or_no true = codes "Yes"
yes_or_no false = codes "No"

-- the name, the code, whether it is available, whether it is derived, and the description
abbrev pub columns_line : Text → Text → Text → Text → Text → Text
columns_line name code available derived description =
    column 14 name ++ (column 12 code ++ (column 7 available ++ (column 7 derived ++ (description ++ 10 ∷ []))))

-- the line above the columns
abbrev pub heading : Text
heading = columns_line (codes "Name") (codes "Code") (codes "Avail") (codes "Deriv") (codes "Description")

-- the description of the event in a row: a preset's own, and one for all user events
abbrev pub description_of : ℕ → Text
description_of row = if nat_lt row preset_count then description_at row else codes "User defined event"

-- the line of a row of the catalog
abbrev pub row_line : CatalogView → ℕ → Text
row_line catalog row =
    columns_line (row_name catalog row) (hex_text (code_of_row row))
    (yes_or_no (is_available catalog.book row)) (yes_or_no (is_derived catalog.book row)) (description_of row)

-- the rows of the catalog: those of the presets, and after them those of the user events
abbrev pub rows : CatalogView → List ℕ
rows catalog = range_with_len 0 (row_count catalog)

-- the rows that are listed: all, or the available ones alone
abbrev pub is_listed : Book → Bool → ℕ → Bool
is_listed book available_alone row = not available_alone || is_available book row

-- how many rows the catalog has, how many of them are available, and how many of these are derived
abbrev pub counts_line : CatalogView → Text
counts_line catalog =
    codes "Of " ++ (decimal (row_count catalog) ++ (codes " possible events, " ++ (decimal (count_by (is_available catalog.book) (rows catalog))
    ++ (codes " are available, of which " ++ (decimal (count_by (is_derived catalog.book) (rows catalog)) ++ codes " are derived.\n")))))

-- the heading, a line for each listed row in the catalog's order, and the counts over the whole catalog
unfoldable pub preset_list : CatalogView → Bool → Text
preset_list catalog available_alone =
    heading ++ (flat_map (row_line catalog) (filter (is_listed catalog.book available_alone) (rows catalog)) ++ counts_line catalog)
