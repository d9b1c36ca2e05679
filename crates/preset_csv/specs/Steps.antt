-- The presets of some rows and of one row more, with the group of cpus at the end of the rows.
use Rattle.std.specs.Prelude.{◌≡◌, ◌++◌, ◌||◌, ◌&&◌, ℕ, Bool, true, false, not, List, [], ◌∷◌, set, Option, Some, None}
use Rattle.std.specs.Prelude.{Result, Ok, Err, is_some, if◌then◌else◌}
use Rattle.std.specs.List.{list_any}
use Rattle.std.specs.Str.{bytes_eq}
use Rattle.csv.specs.Records.{fields_of}
use Rattle.table_rows.specs.Rows.{IsReadRow}
use Rattle.table_rows.specs.Texts.{Text}
use Rattle.postfix_rules.specs.declared.fault.FormulaFault.{FormulaFault}
use Rattle.postfix_rules.specs.declared.fault.FormulaFault.TheVariants as formula
use Rattle.preset_csv.specs.Symbols.{row_of}
use Rattle.preset_csv.specs.Lines.{Derivation, Line, cpu, event, gives, other, preset}
use Rattle.preset_csv.specs.Presets.{Judging, cause_if, group, has_cpu}
use Rattle.preset_csv.specs.declared.entry.Entry.{Entry}
use Rattle.preset_csv.specs.declared.fault.PresetCause.{PresetCause}
use Rattle.preset_csv.specs.declared.fault.PresetCause.TheVariants as cause
use Rattle.preset_csv.specs.declared.group.Group.{Group}
use Rattle.table_rows.specs.declared.fault.RowRefusal.{RowRefusal}
use Rattle.table_rows.specs.declared.fault.RowRefusal.TheVariants as refusal
use Rattle.preset_csv.specs.declared.row.Row.{Row}
use Rattle.preset_csv.specs.declared.row.Row.TheVariants as row

-- a row that gives an entry stands below the last CPU row, so that the next CPU row begins a new group
unfoldable pub is_closed : List Line → Bool
is_closed [] = false
is_closed (gives w r ∷ rest) = if has_cpu rest then is_closed rest else true
is_closed (line ∷ rest) = is_closed rest

-- the group at the end of the rows: whether there is one, whether it is closed, and whether it holds a cpu
abbrev pub group_at : Text → List Line → Group
group_at name above = record { begun = has_cpu above; closed = is_closed above; holds = list_any (λ n. bytes_eq name n) (group above) }

-- the group with one row more
abbrev pub group_more : Text → Group → Line → Group
group_more name g other = g
group_more name g (cpu n) = record { begun = true; closed = false; holds = bytes_eq name n || (not g.closed && g.holds) }
group_more name g (gives w r) = record { begun = g.begun; closed = true; holds = g.holds }

-- entries with one put in its row
abbrev pub placed : List Entry → Option ℕ → Result Entry PresetCause → List Entry
placed entries (Some row) (Ok e) = set entries row e
placed entries row judgement = entries

-- the entries with what one row more derives, if its group holds the cpu
abbrev pub entries_with : Judging → Bool → List Entry → Derivation → List Entry
entries_with judge holds entries r = if holds then placed entries (row_of r.symbol) (judge r) else entries

-- the entries with one row more
abbrev pub entries_more : Judging → Group → List Entry → Line → List Entry
entries_more judge g entries (gives preset r) = entries_with judge g.holds entries r
entries_more judge g entries line = entries

-- the cause of what one row more derives, if its group holds the cpu
abbrev pub read_cause : Judging → Bool → Derivation → Option PresetCause
read_cause judge holds r = cause_if (holds && is_some (row_of r.symbol)) (judge r)

-- why one row more is refused, if it is, but for what an EVENT row says
abbrev pub cause_more : Judging → Group → Line → Option PresetCause
cause_more judge g (gives preset r) = if not g.begun then Some cause.NoCpu else read_cause judge g.holds r
cause_more judge g (gives event r) = if not g.begun then Some cause.NoCpu else None
cause_more judge g line = None

-- the group and the entries with one row more
abbrev pub IsMore : Judging → Text → Line → Group → List Entry → Group → List Entry → Type 0
IsMore judge name line g old h new = (h ≡ group_more name g line) × (new ≡ entries_more judge g old line)

-- no byte of a field of this row ends a field or a row
abbrev pub IsPlainRow : Row → Type 0
IsPlainRow (row.Preset r) = IsReadRow (fields_of r.now)
IsPlainRow (row.Event r) = IsReadRow (fields_of r.now)
IsPlainRow r = Unit {0}

-- why a row with a broken formula is refused
abbrev pub formula_refusal : FormulaFault → RowRefusal PresetCause
formula_refusal (formula.At place why) = refusal.Cause (cause.BadFormula why)
formula_refusal formula.Memory = refusal.Memory

-- the row is refused for the cause of what it says
abbrev pub RefusesForCause : {A : Type 0} → Result A PresetCause → RowRefusal PresetCause → Type 0
RefusesForCause judgement (refusal.Cause why) = judgement ≡ Err why
RefusesForCause judgement refusal.Memory = Unit {0}

-- an entry is given, or refused for its cause
abbrev pub Judges : Result Entry PresetCause → Result Entry (RowRefusal PresetCause) → Type 0
Judges judgement (Ok e) = judgement ≡ Ok e
Judges judgement (Err refused) = RefusesForCause judgement refused

-- fields, each after a comma
abbrev pub after_commas : List Text → Text
after_commas [] = []
after_commas (field ∷ rest) = 44 ∷ (field ++ after_commas rest)
