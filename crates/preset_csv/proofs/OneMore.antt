-- The group, the entries and the cause of some rows and of one more.
use Rattle.preset_csv.proofs.Words.{◌≡◌, ◌∙◌, ◌∷◌, ◌++◌, ℕ, Bool, true, false, not, List, [], map, refl, sym, ap, ap₂, append_assoc, append-nil}
use Rattle.preset_csv.proofs.Words.{Option, Some, None, Result, Ok, Err, ◌&&◌, ◌||◌, is_some, if◌then◌else◌, list_any, bytes_eq, list_any-append}
use Rattle.preset_csv.proofs.Words.{fold-append, or_right, Text, row_of, Derivation, Line, cpu, gives, other, preset, Judging, entry_of, entry_or}
use Rattle.preset_csv.proofs.Words.{group, has_cpu, holds, line_cause, preset_read, presets, presets_read, read_from, rows_if, cause_more}
use Rattle.preset_csv.proofs.Words.{entries_more, entries_with, group_at, group_more, is_closed, placed, symbols, Entry, PresetCause, Group, or-false}
use Rattle.preset_csv.proofs.Groups.{closed-more, has_cpu-more, names-more}
use Rattle.preset_csv.proofs.SymbolRows.{changed-at, set_at}

-- ---- the group

abbrev group_of : Bool → Bool → Bool → Group
group_of begun closed holds = record { begun = begun; closed = closed; holds = holds }

pub holds-more : (name n : Text) (closed : Bool) (names : List Text)
    → list_any (λ m. bytes_eq name m) (if closed then n ∷ [] else names ++ n ∷ []) ≡ (bytes_eq name n || (not closed && list_any (λ m. bytes_eq name m) names))
holds-more name n true names = refl
holds-more name n false names = list_any-append (λ m. bytes_eq name m) names (n ∷ []) ∙ swap (list_any (λ m. bytes_eq name m) names) (bytes_eq name n)
  where
    swap : (a b : Bool) → (a || (b || false)) ≡ (b || a)
    swap true true = refl
    swap true false = refl
    swap false true = refl
    swap false false = refl

pub group-one-more : (name : Text) (above : List Line) (line : Line) → group_at name (above ++ line ∷ []) ≡ group_more name (group_at name above) line
group-one-more name above (cpu n) =
    rw (has_cpu-more above (cpu n), or_right (has_cpu above) true refl, closed-more above (cpu n), names-more above (cpu n))
    (ap (group_of true false) (holds-more name n (is_closed above) (group above)))
group-one-more name above line = rw (has_cpu-more above line, or-false (has_cpu above), closed-more above line, names-more above line) refl

-- ---- the cause

pub cause-one-more : (judge : Judging) (name : Text) (above : List Line) (line : Line) → line_cause judge name above line ≡ cause_more judge (group_at name above) line
cause-one-more judge name above other = refl
cause-one-more judge name above line = refl

-- ---- the entries

pub read-more : (adds : List Line → Line → List Derivation) (a xs : List Line) (line : Line) → read_from adds a (xs ++ line ∷ []) ≡ read_from adds a xs ++ adds (a ++ xs) line
unfolding read_from
read-more adds a [] line = append-nil (adds a line) ∙ ap (λ (b : List Line). adds b line) (sym (append-nil a))
read-more adds a (x ∷ xs) line =
    ap (λ (rs : List Derivation). adds a x ++ rs) (read-more adds (a ++ x ∷ []) xs line ∙ ap (λ (b : List Line). read_from adds (a ++ x ∷ []) xs ++ adds b line) (append_assoc a (x ∷ []) xs))
    ∙ sym (append_assoc (adds a x) (read_from adds (a ++ x ∷ []) xs) (adds (a ++ x ∷ xs) line))

pub map-same : {X : Type 0} (f g : Text → X) (ss : List Text) → ((s : Text) → f s ≡ g s) → map f ss ≡ map g ss
map-same f g [] h = refl
map-same f g (s ∷ ss) h = ap₂ (λ x xs. x ∷ xs) (h s) (map-same f g ss h)

-- the entries with one row more that is read
abbrev entry_more : (Text → Entry) → Derivation → Result Entry PresetCause → Text → Entry
entry_more f r o s = if bytes_eq r.symbol s then entry_or (f s) o else f s

pub entry-append : (judge : Judging) (rows : List Derivation) (r : Derivation) (s : Text) → entry_of judge (rows ++ r ∷ []) s ≡ entry_more (entry_of judge rows) r (judge r) s
unfolding entry_of
entry-append judge rows r s = fold-append _ _ rows (r ∷ [])

kept-at : (b : Bool) (e : Entry) → (if b then e else e) ≡ e
kept-at true e = refl
kept-at false e = refl

placed-more : (f : Text → Entry) (r : Derivation) (o : Result Entry PresetCause) → map (entry_more f r o) symbols ≡ placed (map f symbols) (row_of r.symbol) o
placed-more f r (Ok e) = changed-at f r.symbol e ∙ go (row_of r.symbol)
  where
    go : (row : Option ℕ) → set_at (map f symbols) row e ≡ placed (map f symbols) row (Ok e)
    go None = refl
    go (Some row) = refl
placed-more f r (Err why) = map-same (entry_more f r (Err why)) f symbols (λ s. kept-at (bytes_eq r.symbol s) (f s)) ∙ go (row_of r.symbol)
  where
    go : (row : Option ℕ) → map f symbols ≡ placed (map f symbols) row (Err why)
    go None = refl
    go (Some row) = refl

-- one row more that is not a PRESET row, or not one that is read
pub unread : (judge : Judging) (rows : List Derivation) → map (entry_of judge (rows ++ [])) symbols ≡ map (entry_of judge rows) symbols
unread judge rows = ap (λ (t : List Derivation). map (entry_of judge t) symbols) (append-nil rows)

pub taken-more : (judge : Judging) (rows : List Derivation) (r : Derivation) (holds : Bool)
    → map (entry_of judge (rows ++ rows_if (holds && is_some (row_of r.symbol)) r)) symbols ≡ entries_with judge holds (map (entry_of judge rows) symbols) r
taken-more judge rows r false = unread judge rows
taken-more judge rows r true =
    go (row_of r.symbol) (map-same (entry_of judge (rows ++ r ∷ [])) (entry_more (entry_of judge rows) r (judge r)) symbols (entry-append judge rows r)
    ∙ placed-more (entry_of judge rows) r (judge r))
  where
    go : (row : Option ℕ) → map (entry_of judge (rows ++ r ∷ [])) symbols ≡ placed (map (entry_of judge rows) symbols) row (judge r)
        → map (entry_of judge (rows ++ rows_if (is_some row) r)) symbols ≡ placed (map (entry_of judge rows) symbols) row (judge r)
    go None h = unread judge rows
    go (Some row) h = h

pub entries-one-more : (judge : Judging) (name : Text) (above : List Line) (line : Line) → presets judge name (above ++ line ∷ []) ≡ entries_more judge (group_at name above) (presets judge name above) line
unfolding presets
entries-one-more judge name above line = ap (λ (t : List Derivation). map (entry_of judge t) symbols) (read-more (preset_read name) [] above line) ∙ go line
  where
    go : (line : Line) → map (entry_of judge (presets_read name above ++ preset_read name above line)) symbols ≡ entries_more judge (group_at name above) (map (entry_of judge (presets_read name above)) symbols) line
    go (gives preset r) = taken-more judge (presets_read name above) r (holds name above)
    go line = unread judge (presets_read name above)
