-- The presets of a file for one cpu, and its first fault: papi_events.csv.
use Rattle.std.specs.Prelude.{◌≡◌, ◌&&◌, ℕ, Bool, true, false, not, List, [], ◌∷◌, ◌++◌, map, fold, Option, Some}
use Rattle.std.specs.Prelude.{None, Result, Ok, Err, is_some, if◌then◌else◌, codes}
use Rattle.std.specs.List.{list_any}
use Rattle.std.specs.Str.{bytes_eq}
use Rattle.table_rows.specs.Tables.{ReadsTable, first_fault}
use Rattle.table_rows.specs.Texts.{Text}
use Rattle.preset_csv.specs.Symbols.{row_of}
use Rattle.preset_csv.specs.Entries.{judged}
use Rattle.preset_csv.specs.Lines.{Derivation, Line, cpu, event, gives, lines_of, preset}
use Rattle.preset_csv.specs.Tables.{TableView, symbols}
use Rattle.preset_csv.specs.declared.entry.Entry.{Entry}
use Rattle.preset_csv.specs.declared.entry.Entry.TheVariants as entry
use Rattle.preset_csv.specs.declared.fault.PresetCause.{PresetCause}
use Rattle.preset_csv.specs.declared.fault.PresetCause.TheVariants as cause
use Rattle.table_rows.specs.declared.fault.RowFault.{RowFault}
use Rattle.preset_csv.specs.declared.table.PresetTable.{PresetTable}

-- ---- the group of cpus to which a row belongs

-- a CPU row is among these
unfoldable pub has_cpu : List Line → Bool
has_cpu [] = false
has_cpu (cpu name ∷ rest) = true
has_cpu (line ∷ rest) = has_cpu rest

-- a row that gives an entry stands in the rows, and a CPU row below it: what stands above the rows is cut off
unfoldable pub cuts_off : List Line → Bool
cuts_off [] = false
cuts_off (gives w r ∷ rest) = has_cpu rest
cuts_off (line ∷ rest) = cuts_off rest

-- the names of the CPU rows that are not cut off from the end of the rows
unfoldable pub group : List Line → List Text
group [] = []
group (cpu name ∷ rest) = if cuts_off rest then group rest else name ∷ group rest
group (line ∷ rest) = group rest

-- ---- the rows that are read

-- the group of CPU rows at the end of these rows holds the cpu
abbrev pub holds : Text → List Line → Bool
holds name above = list_any (λ n. bytes_eq name n) (group above)

-- a PRESET row below these rows is read for this cpu
abbrev pub is_read : Text → List Line → Derivation → Bool
is_read name above r = holds name above && is_some (row_of r.symbol)

-- a row, if it is read
abbrev pub rows_if : Bool → Derivation → List Derivation
rows_if read r = if read then r ∷ [] else []

-- what one row below these adds to the PRESET rows that are read
abbrev pub preset_read : Text → List Line → Line → List Derivation
preset_read name above (gives preset r) = rows_if (is_read name above r) r
preset_read name above line = []

-- the rows that are read of some rows below `above`, if one row adds these
unfoldable pub read_from : (List Line → Line → List Derivation) → List Line → List Line → List Derivation
read_from adds above [] = []
read_from adds above (line ∷ rest) = adds above line ++ read_from adds (above ++ line ∷ []) rest

-- the PRESET rows that are read for a cpu
abbrev pub presets_read : Text → List Line → List Derivation
presets_read name lines = read_from (preset_read name) [] lines

-- ---- the entries

-- the entry of each row, or why the row is refused
abbrev pub Judging : Type 0
Judging = Derivation → Result Entry PresetCause

-- the entry that a row gives, or the old one
abbrev pub entry_or : Entry → Result Entry PresetCause → Entry
entry_or old (Ok e) = e
entry_or old (Err why) = old

-- the entry of a symbol, as its rows are judged: that of the last one
unfoldable pub entry_of : Judging → List Derivation → Text → Entry
entry_of judge rows symbol = fold (λ e r. if bytes_eq r.symbol symbol then entry_or e (judge r) else e) entry.Missing rows

-- the entries of the preset table's symbols
unfoldable pub presets : Judging → Text → List Line → List Entry
presets judge name lines = map (entry_of judge (presets_read name lines)) symbols

-- ---- the first fault

-- why a row is refused, if it is
abbrev pub judged_cause : Result Entry PresetCause → Option PresetCause
judged_cause (Ok e) = None
judged_cause (Err why) = Some why

-- why a row is refused, if it is read
abbrev pub cause_if : Bool → Result Entry PresetCause → Option PresetCause
cause_if read judgement = if read then judged_cause judgement else None

-- the cause of a row below these rows, but for what an EVENT row says
abbrev pub line_cause : Judging → Text → List Line → Line → Option PresetCause
line_cause judge name above (gives preset r) =
    if not (has_cpu above) then Some cause.NoCpu
    else cause_if (is_read name above r) (judge r)
line_cause judge name above (gives event r) = if not (has_cpu above) then Some cause.NoCpu else None
line_cause judge name above line = None

-- ---- what a caller gets

-- the first faulty row of a preset file, from 1, and its first cause
unfoldable pub preset_fault : Text → List ℕ → Option (ℕ × PresetCause)
preset_fault name bytes = first_fault (line_cause judged name) [] (lines_of bytes)

-- the presets for a cpu in a file that has no faulty row
unfoldable pub presets_in : Text → List ℕ → TableView
presets_in name bytes = record { cpu = name; rows = presets judged name (lines_of bytes) }

-- the presets if no row is faulty, or the first fault, or that memory ran out
abbrev pub ReadsPresets : Result PresetTable (RowFault PresetCause) → List ℕ → Text → Type 0
ReadsPresets result bytes name = ReadsTable (preset_fault name bytes) (λ table. table ≡ presets_in name bytes) result

-- a cause as it is written on the line that names it
abbrev pub cause_text : PresetCause → Text
cause_text cause.NoCpu = codes "preset before cpu"
cause_text cause.BadField = codes "bad field"
cause_text cause.OverLimit = codes "over a limit"
cause_text (cause.BadFormula why) = codes "broken formula"
