-- What one row derives is taken, or the row refused; and the group and the entries of some rows and of one row more.
use Rattle.preset_csv.proofs.Words.{◌≡◌, ◌∙◌, ◌∷◌, ◌++◌, ℕ, List, [], Some, None, true, false, Bool, set, replicate, refl, sym, ap, Ok, Err}
use Rattle.preset_csv.proofs.Words.{RefusesRow, TakesRow, Text, text_at, RowRefusal, takes-as, preset_rows, row_of, Line, derivation_of, Judging}
use Rattle.preset_csv.proofs.Words.{entry_of, group, has_cpu, line_cause, presets, read_from, GivePresets, IsMore, Judges, cause_more, entries_more}
use Rattle.preset_csv.proofs.Words.{entries_with, group_at, group_more, is_closed, read_cause, symbols, Entry, PresetCause, Group, PRESETS}
use Rattle.std.specs.Prelude.{Result}
use Rattle.table_rows.specs.declared.fault.RowRefusal.TheVariants as refusal
use Rattle.preset_csv.specs.declared.entry.Entry.TheVariants as entry
use Rattle.preset_csv.proofs.NativesKept.{symbol-there}
use Rattle.preset_csv.proofs.OneMore.{cause-one-more, entries-one-more, group-one-more}

-- ---- what one row derives

symbol-row : (fields : List Text) (row : ℕ) → row_of (text_at fields 1) ≡ Some row → row_of (derivation_of fields).symbol ≡ Some row
symbol-row fields row e = ap row_of (symbol-there fields) ∙ e

pub put-taken : (judge : Judging) (fields : List Text) (holds : Bool) (row : ℕ) (e : Entry) (old new : List Entry) → holds ≡ true → row_of (text_at fields 1) ≡ Some row
    → judge (derivation_of fields) ≡ Ok e → new ≡ set old row e
    → (read_cause judge holds (derivation_of fields) ≡ None) × (new ≡ entries_with judge holds old (derivation_of fields))
put-taken judge fields true row e old new h at j is = let s = symbol-row fields row at in (rw (s, j) refl, rw (s, j) is)
put-taken judge fields false row e old new h at j is = cc h

pub unknown-taken : (judge : Judging) (fields : List Text) (holds : Bool) (old : List Entry) → holds ≡ true → row_of (text_at fields 1) ≡ None
    → (read_cause judge holds (derivation_of fields) ≡ None) × (old ≡ entries_with judge holds old (derivation_of fields))
unknown-taken judge fields true old h at = let s : row_of (derivation_of fields).symbol ≡ None = ap row_of (symbol-there fields) ∙ at in (rw s refl, rw s refl)
unknown-taken judge fields false old h at = cc h

pub not-taken : (judge : Judging) (fields : List Text) (holds : Bool) (row : ℕ) (f : RowRefusal PresetCause) → holds ≡ true → row_of (text_at fields 1) ≡ Some row
    → Judges (judge (derivation_of fields)) (Err f) → RefusesRow (read_cause judge holds (derivation_of fields)) f
not-taken judge fields true row (refusal.Cause why) h at j = let s = symbol-row fields row at in rw (s, j) refl
not-taken judge fields true row refusal.Memory h at j = tt
not-taken judge fields false row f h at j = cc h

-- ---- the rows of a file

pub none-taken : (judge : Judging) (name : Text) (g : Group) (entries : List Entry) → g ≡ record { begun = false; closed = false; holds = false }
    → entries ≡ replicate PRESETS entry.Missing → GivePresets judge name [] g entries
unfolding has_cpu is_closed group presets symbols preset_rows read_from entry_of
none-taken judge name g entries begins are = record { group = begins; entries_are = are }

pub more-taken : (judge : Judging) (name : Text) (above : List Line) (line : Line) (g h : Group) (old new : List Entry) → GivePresets judge name above g old → IsMore judge name line g old h new
    → GivePresets judge name (above ++ line ∷ []) h new
more-taken judge name above line g h old new t more = record {
  group = more.0 ∙ ap (λ (g : Group). group_more name g line) t.group ∙ sym (group-one-more name above line);
  entries_are = more.1 ∙ ap (λ (g : Group). entries_more judge g old line) t.group ∙ ap (λ (es : List Entry). entries_more judge (group_at name above) es line) t.entries_are
      ∙ sym (entries-one-more judge name above line);
}

pub row-taken : (judge : Judging) (name : Text) (above : List Line) (line : Line) (g h : Group) (old new : List Entry) (result : Result Unit (RowRefusal PresetCause)) → GivePresets judge name above g old
    → TakesRow (cause_more judge g line) (IsMore judge name line g old h new) result → TakesRow (line_cause judge name above line) (GivePresets judge name (above ++ line ∷ []) h new) result
row-taken judge name above line g h old new result t takes =
    takes-as (cause_more judge g line) (line_cause judge name above line) (IsMore judge name line g old h new) (GivePresets judge name (above ++ line ∷ []) h new) result
    (ap (λ (g : Group). cause_more judge g line) t.group ∙ sym (cause-one-more judge name above line)) (λ none more. more-taken judge name above line g h old new t more) takes
