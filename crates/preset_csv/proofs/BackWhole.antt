-- A written table reads back also if the cpu's name can stand in no field: then no row is written, and none is read.
use Rattle.preset_csv.proofs.Words.{◌≡◌, ◌∙◌, ◌+◌, ◌∷◌, ◌++◌, ℕ, suc, Bool, true, false, List, [], Option, Some, None, length, map, refl, sym, ap}
use Rattle.preset_csv.proofs.Words.{ap₂, subst, arith, codes, AllByRecursion, Read, after_end, ends_with, field_after, fields_after, in_field, is_end}
use Rattle.preset_csv.proofs.Words.{next_record, records_from, records_next, strip_bom, Action, State, IsReadRow, rows_of, rows_text, table_config}
use Rattle.preset_csv.proofs.Words.{Text, text_at, all-append, Line, cpu, event, gives, line_of, lines_of, other, preset, first_fault, judged}
use Rattle.preset_csv.proofs.Words.{Judging, has_cpu, holds, line_cause, preset_fault, presets, presets_in, IsMissing, IsTable, TableView, is_field}
use Rattle.preset_csv.proofs.Words.{symbols, ReadsBack, rows_of_entries, table_text, Entry, PresetCause}
use Rattle.std.specs.Prelude.{⊤, ◌==◌, if◌then◌else◌}
use Rattle.csv.specs.declared.parser.Action.TheVariants as act
use Rattle.csv.specs.declared.parser.State.TheVariants as st
use Rattle.preset_csv.proofs.Back.{fault-of-written, presets-of-written}
use Rattle.preset_csv.proofs.Fields.{field-good}
use Rattle.preset_csv.proofs.Groups.{has_cpu-more}
use Rattle.preset_csv.proofs.RowBack.{cpu-begins}
use Rattle.preset_csv.proofs.TableKept.{IsLine, length-presets, line-kept, lines-plain, no-presets, not-in-group}

-- ---- the first record of a text that begins with a field and a comma

-- a record is read that begins with this field
record Begins (f : Text) (r : Option Read) : Type 0 where
  pub more : List Text
  state : State
  rest : List ℕ
  is : r ≡ Some (f ∷ more, state, rest)

-- the states inside a record
abbrev InRow : State → Type 0
InRow st.StartField = ⊤
InRow st.InField = ⊤
InRow s = ⊥

-- the record after one byte more
abbrev after : List Text → List ℕ → ℕ → List ℕ → State × Action → Option Read
after fields field c rest p =
    if is_end p.1 then Some (fields_after p.1 fields field, p.0, rest)
    else next_record table_config p.0 (fields_after p.1 fields field) (field_after p.1 c field) rest

byte-begins : (f : Text) (fields : List Text) (field : List ℕ) (c : ℕ) (xs : List ℕ)
    → Begins f (next_record table_config st.StartField (f ∷ (fields ++ (field ∷ []))) [] xs) → Begins f (next_record table_config st.InField (f ∷ fields) (field ++ (c ∷ [])) xs)
    → Begins f (after (f ∷ fields) field c xs (in_field table_config c))
byte-begins f fields field c xs ends goes = go (c == 44) (ends_with table_config.terminator c)
  where
    go : (b e : Bool)
        → Begins f (after (f ∷ fields) field c xs (if b then (st.StartField, act.EndField) else if e then (after_end table_config.terminator c, act.EndRecord) else (st.InField, act.Copy)))
    go true e = ends
    go false true = record { more = fields ++ (field ∷ []); state = after_end table_config.terminator c; rest = xs; is = refl }
    go false false = goes

-- inside a record its first field stays
next-begins : (s : State) (f : Text) (fields : List Text) (field xs : List ℕ) → InRow s → Begins f (next_record table_config s (f ∷ fields) field xs)
unfolding next_record
next-begins st.StartField f fields field [] o = record { more = fields ++ (field ∷ []); state = st.StartRecord; rest = []; is = refl }
next-begins st.StartField f fields field (c ∷ xs) o =
    byte-begins f fields field c xs (next-begins st.StartField f (fields ++ (field ∷ [])) [] xs tt) (next-begins st.InField f fields (field ++ (c ∷ [])) xs tt)
next-begins st.InField f fields field [] o = record { more = fields ++ (field ∷ []); state = st.StartRecord; rest = []; is = refl }
next-begins st.InField f fields field (c ∷ xs) o =
    byte-begins f fields field c xs (next-begins st.StartField f (fields ++ (field ∷ [])) [] xs tt) (next-begins st.InField f fields (field ++ (c ∷ [])) xs tt)
next-begins s f fields field xs o = absurd o

-- `CPU,` and some bytes
abbrev cpu_text : List ℕ → List ℕ
cpu_text xs = 67 ∷ 80 ∷ 85 ∷ 44 ∷ xs

cpu-first : (xs : List ℕ) → next_record table_config st.StartRecord [] [] (cpu_text xs) ≡ next_record table_config st.StartField (codes "CPU" ∷ []) [] xs
unfolding next_record
cpu-first xs = refl

record FirstRow (rows : List (List Text)) : Type 0 where
  more : List Text
  below : List (List Text)
  is : rows ≡ (codes "CPU" ∷ more) ∷ below

strip-cpu : (xs : List ℕ) → strip_bom (cpu_text xs) ≡ cpu_text xs
unfolding strip_bom
strip-cpu xs = refl

records-cpu : (n : ℕ) (xs : List ℕ) → FirstRow (records_from table_config (suc n) st.StartRecord (cpu_text xs))
unfolding records_from
records-cpu n xs =
    let b = next-begins st.StartField (codes "CPU") [] [] xs tt in
    record { more = b.more; below = records_from table_config n b.state b.rest; is = ap (records_next (records_from table_config n)) (cpu-first xs ∙ b.is) }

first-row : (xs : List ℕ) → FirstRow (rows_of (cpu_text xs))
unfolding rows_of
first-row xs =
    let n : length (cpu_text xs) + 1 ≡ suc (length (cpu_text xs)) = omega arith in
    let r = records-cpu (length (cpu_text xs)) xs in
    record {
      more = r.more;
      below = r.below;
      is = ap (λ (t : List ℕ). records_from table_config (length t + 1) st.StartRecord t) (strip-cpu xs)
          ∙ ap (λ (k : ℕ). records_from table_config k st.StartRecord (cpu_text xs)) n ∙ r.is;
    }

-- ---- a cpu whose name can stand in no field

-- no row below a CPU row has a cause, if the group above it does not hold the cpu
abbrev pub Spares : Text → (List Line → Line → Option PresetCause) → Type 0
Spares name cause = (above : List Line) (line : Line) → has_cpu above ≡ true → holds name above ≡ false → cause above line ≡ None

none-faulty : (name : Text) (cause : List Line → Line → Option PresetCause) → Spares name cause → (above lines : List Line) → is_field name ≡ false → has_cpu above ≡ true
    → AllByRecursion IsLine above → AllByRecursion IsLine lines → first_fault cause above lines ≡ None
unfolding first_fault
none-faulty name cause spares above [] e c a h = refl
none-faulty name cause spares above (line ∷ rest) e c a h =
    rw (spares above line c (not-in-group name above e a))
    (none-faulty name cause spares (above ++ line ∷ []) rest e (has_cpu-more above line ∙ rw c refl) (all-append IsLine above (line ∷ []) a (h.0, tt)) h.1)

begun-faultless : (name : Text) (cause : List Line → Line → Option PresetCause) → Spares name cause → (n : Text) (lines : List Line) → cause [] (cpu n) ≡ None
    → is_field name ≡ false → AllByRecursion IsLine (cpu n ∷ lines) → first_fault cause [] (cpu n ∷ lines) ≡ None
unfolding first_fault has_cpu
begun-faultless name cause spares n lines first e h = rw first (none-faulty name cause spares (cpu n ∷ []) lines e refl (h.0, tt) h.1)

-- what each row says, which for a row of a cpu is that cpu
pub record Says (of : List Text → Line) : Type 0 where
  pub kept : (fields : List Text) → IsReadRow fields → IsLine (of fields)
  pub begins : (rest : List Text) → of (codes "CPU" ∷ rest) ≡ cpu (text_at (codes "CPU" ∷ rest) 1)

pub bad-faultless : (name : Text) (cause : List Line → Line → Option PresetCause) → Spares name cause → (of : List Text → Line) → Says of → ((n : Text) → cause [] (cpu n) ≡ None)
    → (xs : List ℕ) → is_field name ≡ false → first_fault cause [] (map of (rows_of (cpu_text xs))) ≡ None
bad-faultless name cause spares of says first xs e =
    let r = first-row xs in
    let lines : map of (rows_of (cpu_text xs)) ≡ cpu (text_at (codes "CPU" ∷ r.more) 1) ∷ map of r.below = ap (map of) r.is ∙ ap (λ (l : Line). l ∷ map of r.below) (says.begins r.more) in
    ap (first_fault cause []) lines
    ∙ begun-faultless name cause spares (text_at (codes "CPU" ∷ r.more) 1) (map of r.below) (first (text_at (codes "CPU" ∷ r.more) 1)) e
    (subst (AllByRecursion IsLine) lines (lines-plain of says.kept (cpu_text xs)))

missing-same : (es fs : List Entry) → AllByRecursion IsMissing es → AllByRecursion IsMissing fs → length es ≡ length fs → es ≡ fs
missing-same [] [] h k n = refl
missing-same [] (f ∷ fs) h k n = absurd (omega arith)
missing-same (e ∷ es) [] h k n = absurd (omega arith)
missing-same (e ∷ es) (f ∷ fs) h k n = ap₂ (λ (x : Entry) (xs : List Entry). x ∷ xs) (h.0 ∙ sym k.0) (missing-same es fs h.1 k.1 (omega arith))

-- ---- the law

abbrev table-of : Text → List Entry → TableView
table-of name rows = record { cpu = name; rows = rows }

pub spares : (judge : Judging) (name : Text) → Spares name (line_cause judge name)
spares judge name above other c h = refl
spares judge name above (cpu n) c h = refl
spares judge name above (gives preset r) c h = rw (c, h) refl
spares judge name above (gives event r) c h = rw c refl

says : Says line_of
says = record { kept = line-kept; begins = cpu-begins }

bad-text : (t : TableView) → is_field t.cpu ≡ false → first_fault (line_cause judged t.cpu) [] (lines_of (table_text t)) ≡ None
unfolding table_text rows_text
bad-text t e = bad-faultless t.cpu (line_cause judged t.cpu) (spares judged t.cpu) line_of says (λ n. refl) (t.cpu ++ (10 ∷ rows_text (rows_of_entries symbols t.rows))) e

-- if no row is read, the table has no entry
pub no-entries : (judge : Judging) (t : TableView) (lines : List Line) → IsTable t → is_field t.cpu ≡ false → AllByRecursion IsLine lines → presets judge t.cpu lines ≡ t.rows
no-entries judge t lines h e l = missing-same _ _ (no-presets judge t.cpu lines e l) (h.named e) (length-presets judge t.cpu lines ∙ sym h.all)

-- what is written reads back
pub reads-back : (t : TableView) → IsTable t → ReadsBack (table_text t) t
unfolding preset_fault presets_in
reads-back t h = go (is_field t.cpu) refl
  where
    go : (b : Bool) → is_field t.cpu ≡ b → (first_fault (line_cause judged t.cpu) [] (lines_of (table_text t)) ≡ None) × (table-of t.cpu (presets judged t.cpu (lines_of (table_text t))) ≡ t)
    go true e = (fault-of-written t (field-good t.cpu e) h.each, ap (table-of t.cpu) (presets-of-written t (field-good t.cpu e) h.all h.each))
    go false e = (bad-text t e, ap (table-of t.cpu) (no-entries judged t (lines_of (table_text t)) h e (lines-plain line_of line-kept (table_text t))))
