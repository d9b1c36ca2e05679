-- A file without EVENT rows and formulas in infix order is read as one of presets alone.
use Rattle.user_events.proofs.Words.{◌≡◌, ◌∙◌, ◌+◌, ◌∷◌, ◌++◌, ℕ, not, List, [], map, fold, length, refl, ap, ap₂, Option, Some, None, Result, Ok}
use Rattle.user_events.proofs.Words.{Err, if◌then◌else◌, codes, cond_both, AllByRecursion, option_map_or, bytes_eq, str_eq_ignore_ascii_case, rows_of}
use Rattle.user_events.proofs.Words.{Text, is_empty, is_printable, text_at, all-append, judged, judged_as, judged_by, kept_entry, kept_natives}
use Rattle.user_events.proofs.Words.{typed_entry, uncomputed, Derivation, Line, cpu, derivation_of, event, gives, other, preset, cause_if, entry_of}
use Rattle.user_events.proofs.Words.{entry_or, has_cpu, is_read, preset_fault, preset_read, presets, presets_in, presets_read, read_from, rows_if}
use Rattle.user_events.proofs.Words.{symbols, Entry, PresetCause, DerivedType, IsOfPresets, IsOrdinary, ReadsAsPresets, event_judged, infix_entry}
use Rattle.user_events.proofs.Words.{line_of, lines_of, first_fault, event_read, events_of, extended_fault, extended_in, line_cause, names_in}
use Rattle.preset_csv.specs.Lines as Presets
use Rattle.preset_csv.specs.Presets as Of
use Rattle.preset_csv.specs.declared.entry.Entry.TheVariants as entry
use Rattle.preset_csv.specs.declared.fault.PresetCause.TheVariants as cause
use Rattle.preset_csv.specs.declared.kind.DerivedType.TheVariants as derived

same-typed : (t : DerivedType) (formula : Text) (natives : List Text) → (Some t ≡ Some derived.Infix → ⊥) → typed_entry infix_entry t formula natives ≡ typed_entry uncomputed t formula natives
same-typed derived.Infix formula natives h = absurd (h refl)
same-typed t formula natives h = refl

same-judged : (r : Derivation) → IsOrdinary r → event_judged r ≡ judged r
unfolding judged_by
same-judged r h = go r.derived_type h
  where
    kept : (t : DerivedType) (o : Result (List Text) PresetCause) → (Some t ≡ Some derived.Infix → ⊥) → kept_entry infix_entry t r.formula o ≡ kept_entry uncomputed t r.formula o
    kept t (Ok natives) k = ap (λ (j : Result Entry PresetCause). if is_empty natives then Ok entry.Uncomputed else j) (same-typed t r.formula natives k)
    kept t (Err why) k = refl

    go : (t : Option DerivedType) → (t ≡ Some derived.Infix → ⊥) → judged_as infix_entry t r.formula r.natives ≡ judged_as uncomputed t r.formula r.natives
    go None k = refl
    go (Some t) k = ap (λ (j : Result Entry PresetCause). if is_printable r.formula then j else Err cause.BadField) (kept t (kept_natives r.natives) k)

same-lines : (rows : List (List Text)) → AllByRecursion IsOfPresets (map line_of rows) → map line_of rows ≡ map Presets.line_of rows
unfolding line_of
same-lines [] h = refl
same-lines (fields ∷ rows) h = ap₂ (λ (x : Line) (xs : List Line). x ∷ xs) (
    cond_both (str_eq_ignore_ascii_case (text_at fields 0) (codes "EVENT")) (gives event (derivation_of fields)) (Presets.line_of fields) (λ (x : Line). IsOfPresets x → x ≡ Presets.line_of fields)
    (λ b k. absurd k) (λ b k. refl) h.0) (same-lines rows h.1)

-- ---- the faults

same-cause : (name : Text) (above : List Line) (x : Line) → IsOfPresets x → line_cause name above x ≡ Of.line_cause judged name above x
same-cause name above (gives preset r) h =
    ap (λ (j : Result Entry PresetCause). if not (has_cpu above) then Some cause.NoCpu else cause_if (is_read name above r) j) (same-judged r h)
same-cause name above (gives event r) h = absurd h
same-cause name above x h = refl

same-fault : (name : Text) (above lines : List Line) → AllByRecursion IsOfPresets lines → first_fault (line_cause name) above lines ≡ first_fault (Of.line_cause judged name) above lines
unfolding first_fault
same-fault name above [] h = refl
same-fault name above (x ∷ lines) h =
    ap₂ (λ (o : Option PresetCause) (later : Option (ℕ × PresetCause)). option_map_or (λ why. Some (length above + 1, why)) o later) (same-cause name above x h.0)
    (same-fault name (above ++ x ∷ []) lines h.1)

-- ---- the rows that are read

one-ordinary : (name : Text) (above : List Line) (x : Line) → IsOfPresets x → AllByRecursion IsOrdinary (preset_read name above x) × (event_read name above x ≡ [])
one-ordinary name above (gives preset r) h = (cond_both (is_read name above r) (r ∷ []) [] (AllByRecursion IsOrdinary) (λ b. (h, tt)) (λ b. tt), refl)
one-ordinary name above (gives event r) h = absurd h
one-ordinary name above x h = (tt, refl)

all-ordinary : (name : Text) (above lines : List Line) → AllByRecursion IsOfPresets lines
    → AllByRecursion IsOrdinary (read_from (preset_read name) above lines) × (read_from (event_read name) above lines ≡ [])
unfolding read_from
all-ordinary name above [] h = (tt, refl)
all-ordinary name above (x ∷ lines) h =
    let one = one-ordinary name above x h.0 in
    let more = all-ordinary name (above ++ x ∷ []) lines h.1 in
    (all-append IsOrdinary (preset_read name above x) _ one.0 more.0, rw one.1 more.1)

-- ---- the entries

same-fold : (s : Text) (e : Entry) (rows : List Derivation) → AllByRecursion IsOrdinary rows
    → fold (λ e r. if bytes_eq r.symbol s then entry_or e (event_judged r) else e) e rows ≡ fold (λ e r. if bytes_eq r.symbol s then entry_or e (judged r) else e) e rows
same-fold s e [] h = refl
same-fold s e (r ∷ rows) h =
    ap (λ (j : Result Entry PresetCause). fold (λ e q. if bytes_eq q.symbol s then entry_or e (event_judged q) else e) (if bytes_eq r.symbol s then entry_or e j else e) rows) (same-judged r h.0)
    ∙ same-fold s (if bytes_eq r.symbol s then entry_or e (judged r) else e) rows h.1

same-entries : (rows : List Derivation) (ss : List Text) → AllByRecursion IsOrdinary rows → map (entry_of event_judged rows) ss ≡ map (entry_of judged rows) ss
unfolding entry_of
same-entries rows [] h = refl
same-entries rows (s ∷ ss) h = ap₂ (λ (x : Entry) (xs : List Entry). x ∷ xs) (same-fold s entry.Missing rows h) (same-entries rows ss h)

pub reads_as_presets : ReadsAsPresets
unfolding extended_fault extended_in preset_fault presets_in presets names_in
reads_as_presets name bytes h =
    let lines = same-lines (rows_of bytes) h in
    let read = all-ordinary name [] (lines_of bytes) h in (
      same-fault name [] (lines_of bytes) h ∙ ap (first_fault (Of.line_cause judged name) []) lines,
      ap (λ (es : List Entry). record { cpu = name; rows = es })
          (same-entries (presets_read name (lines_of bytes)) symbols read.0 ∙ ap (λ (ls : List Line). map (entry_of judged (presets_read name ls)) symbols) lines),
      ap events_of read.1,
    )
