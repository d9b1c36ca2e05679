-- The presets of any bytes are a table.
use Rattle.preset_csv.proofs.Words.{◌≡◌, ◌∷◌, ◌++◌, ℕ, zero, suc, Bool, true, false, List, [], length, map, drop, fold, refl, subst, codes, Result}
use Rattle.preset_csv.proofs.Words.{Ok, Err, ⊤, if◌then◌else◌, slice_get, unwrap_or, AllByRecursion, list_all, list_any, bytes_eq}
use Rattle.preset_csv.proofs.Words.{str_eq_ignore_ascii_case, and_from, cond_both, false_from_ne_true, bytes_eq-Decides, IsInner, IsPlainField}
use Rattle.preset_csv.proofs.Words.{IsReadRow, rows_of, Text, text_at, trimmed, all-append, trimmed-all, trimmed-once, preset_rows, has_formula}
use Rattle.preset_csv.proofs.Words.{type_of, Derivation, Line, cpu, derivation_of, gives, line_of, natives_from, natives_in, other, preset, Judging}
use Rattle.preset_csv.proofs.Words.{cuts_off, entry_of, entry_or, group, holds, is_read, preset_read, presets, presets_read, read_from, IsEntry}
use Rattle.preset_csv.proofs.Words.{IsMissing, IsTable, is_field, is_field_byte, symbols, Entry, PresetCause, rows-plain, PRESETS}
use Rattle.preset_csv.specs.declared.entry.Entry.TheVariants as entry
use Rattle.preset_csv.proofs.Judged.{Keeps}
use Rattle.preset_csv.proofs.NativesKept.{IsNative, cut-natives, cut-trimmed, read-drop}
use Rattle.preset_csv.proofs.SymbolRows.{same-text}

-- ---- a row by itself

abbrev pub IsKept : Derivation → Type 0
IsKept r = AllByRecursion IsNative r.natives

natives-cut : (fields : List Text) (first : ℕ) → IsReadRow fields → AllByRecursion IsNative (natives_in (map trimmed (drop first fields)))
natives-cut fields first h = cut-natives _ (cut-trimmed (drop first fields) (read-drop first fields h))

pub derivation-kept : (fields : List Text) → IsReadRow fields → IsKept (derivation_of fields)
unfolding derivation_of
derivation-kept fields h =
    cond_both (has_formula (type_of (text_at fields 2))) (natives_from fields 4) (natives_from fields 3) (AllByRecursion IsNative) (λ b. natives-cut fields 4 h) (λ b. natives-cut fields 3 h)

plain-at : (fields : List Text) (i : ℕ) → IsReadRow fields → IsPlainField (unwrap_or (slice_get fields i) [])
plain-at [] i h = tt
plain-at (t ∷ fields) zero h = h.0
plain-at (t ∷ fields) (suc i) h = plain-at fields i h.1

field-bytes : (t : Text) → IsPlainField t → list_all is_field_byte t ≡ true
field-bytes [] h = refl
field-bytes (b ∷ t) h = rw (h.0.0, h.0.1, h.0.2) (field-bytes t h.1)

pub text-field : (fields : List Text) (i : ℕ) → IsReadRow fields → is_field (text_at fields i) ≡ true
unfolding is_field text_at
text-field fields i h =
    let t = unwrap_or (slice_get fields i) [] in
    and_from _ _ (field-bytes (trimmed t) (trimmed-all IsInner t (plain-at fields i h))) (rw (trimmed-once t) (same-text (trimmed t)))

abbrev pub IsLine : Line → Type 0
IsLine other = ⊤
IsLine (cpu n) = is_field n ≡ true
IsLine (gives w r) = IsKept r

pub line-kept : (fields : List Text) → IsReadRow fields → IsLine (line_of fields)
unfolding line_of
line-kept fields h =
    cond_both (str_eq_ignore_ascii_case (text_at fields 0) (codes "CPU")) (cpu (text_at fields 1)) _ IsLine (λ b. text-field fields 1 h)
    (λ b. cond_both (str_eq_ignore_ascii_case (text_at fields 0) (codes "PRESET")) (gives preset (derivation_of fields)) other IsLine (λ c. derivation-kept fields h) (λ c. tt))

-- the rows of any bytes, by what each of them says
pub lines-plain : (of : List Text → Line) → ((fields : List Text) → IsReadRow fields → IsLine (of fields)) → (bytes : List ℕ) → AllByRecursion IsLine (map of (rows_of bytes))
lines-plain of kept bytes = go (rows_of bytes) (rows-plain bytes)
  where
    go : (rows : List (List Text)) → AllByRecursion IsReadRow rows → AllByRecursion IsLine (map of rows)
    go [] h = tt
    go (row ∷ rows) h = (kept row h.0, go rows h.1)

one-kept : (name : Text) (above : List Line) (line : Line) → IsLine line → AllByRecursion IsKept (preset_read name above line)
one-kept name above (gives preset r) h = cond_both (is_read name above r) (r ∷ []) [] (AllByRecursion IsKept) (λ b. (h, tt)) (λ b. tt)
one-kept name above line h = tt

read-kept : (name : Text) (above lines : List Line) → AllByRecursion IsLine lines → AllByRecursion IsKept (read_from (preset_read name) above lines)
unfolding read_from
read-kept name above [] h = tt
read-kept name above (line ∷ rest) h = all-append IsKept (preset_read name above line) _ (one-kept name above line h.0) (read-kept name (above ++ line ∷ []) rest h.1)

-- ---- the entries

-- the entries that rows are judged to give can stand in a table
abbrev pub AllKeep : Judging → Type 0
AllKeep judge = (r : Derivation) → IsKept r → Keeps (judge r)

step-kept : (judge : Judging) → AllKeep judge → (symbol : Text) (e : Entry) (r : Derivation) → IsEntry e → IsKept r → IsEntry (if bytes_eq r.symbol symbol then entry_or e (judge r) else e)
step-kept judge keeps symbol e r k h = go (bytes_eq r.symbol symbol) (judge r) (keeps r h)
  where
    go : (b : Bool) (o : Result Entry PresetCause) → Keeps o → IsEntry (if b then entry_or e o else e)
    go true (Ok x) p = p
    go true (Err why) p = k
    go false o p = k

fold-kept : (judge : Judging) → AllKeep judge → (symbol : Text) (e : Entry) (rows : List Derivation) → IsEntry e → AllByRecursion IsKept rows
    → IsEntry (fold (λ e r. if bytes_eq r.symbol symbol then entry_or e (judge r) else e) e rows)
fold-kept judge keeps symbol e [] k h = k
fold-kept judge keeps symbol e (r ∷ rows) k h =
    fold-kept judge keeps symbol (if bytes_eq r.symbol symbol then entry_or e (judge r) else e) rows (step-kept judge keeps symbol e r k h.0) h.1

each-kept : (judge : Judging) → AllKeep judge → (rows : List Derivation) (ss : List Text) → AllByRecursion IsKept rows → AllByRecursion IsEntry (map (entry_of judge rows) ss)
unfolding entry_of
each-kept judge keeps rows [] h = tt
each-kept judge keeps rows (s ∷ ss) h = (fold-kept judge keeps s entry.Missing rows tt h, each-kept judge keeps rows ss h)

-- ---- a name that can stand in no field

pub other-name : (name n : Text) → is_field name ≡ false → is_field n ≡ true → bytes_eq name n ≡ false
other-name name n e k = false_from_ne_true (bytes_eq name n)
    (λ q. let same : is_field n ≡ false = subst (λ (t : Text). is_field t ≡ false) ((bytes_eq-Decides name n).0 q) e in cc (same, k))

pub not-in-group : (name : Text) (above : List Line) → is_field name ≡ false → AllByRecursion IsLine above → holds name above ≡ false
unfolding group
not-in-group name [] e h = refl
not-in-group name (cpu n ∷ rest) e h =
    let more = not-in-group name rest e h.1 in
    cond_both (cuts_off rest) (group rest) (n ∷ group rest) (λ (g : List Text). list_any (λ m. bytes_eq name m) g ≡ false) (λ b. more) (λ b. rw (other-name name n e h.0) more)
not-in-group name (l ∷ rest) e h = not-in-group name rest e h.1

-- a row that is read only if the group above it holds the cpu
pub none-read : (adds : List Line → Line → List Derivation) (name : Text) → ((above : List Line) (line : Line) → holds name above ≡ false → adds above line ≡ []) → (above lines : List Line)
    → is_field name ≡ false → AllByRecursion IsLine above → AllByRecursion IsLine lines → read_from adds above lines ≡ []
unfolding read_from
none-read adds name none above [] e a h = refl
none-read adds name none above (line ∷ rest) e a h =
    rw (none above line (not-in-group name above e a)) (none-read adds name none (above ++ line ∷ []) rest e (all-append IsLine above (line ∷ []) a (h.0, tt)) h.1)

unread-unheld : (name : Text) (above : List Line) (line : Line) → holds name above ≡ false → preset_read name above line ≡ []
unread-unheld name above (gives preset r) h = rw h refl
unread-unheld name above line h = refl

all-missing : (judge : Judging) (ss : List Text) → AllByRecursion IsMissing (map (entry_of judge []) ss)
unfolding entry_of
all-missing judge [] = tt
all-missing judge (s ∷ ss) = (refl, all-missing judge ss)

-- for such a name there are no presets
pub no-presets : (judge : Judging) (name : Text) (lines : List Line) → is_field name ≡ false → AllByRecursion IsLine lines → AllByRecursion IsMissing (presets judge name lines)
unfolding presets
no-presets judge name lines e h = rw (none-read (preset_read name) name (unread-unheld name) [] lines e tt h) (all-missing judge symbols)

pub length-presets : (judge : Judging) (name : Text) (lines : List Line) → length (presets judge name lines) ≡ PRESETS
unfolding presets symbols preset_rows
length-presets judge name lines = refl

-- ---- the law

pub presets-kept : (judge : Judging) → AllKeep judge → (name : Text) (lines : List Line) → AllByRecursion IsLine lines → IsTable (record { cpu = name; rows = presets judge name lines })
unfolding presets
presets-kept judge keeps name lines h = record {
  all = length-presets judge name lines;
  each = each-kept judge keeps (presets_read name lines) symbols (read-kept name [] lines h);
  named = λ e. no-presets judge name lines e h;
}
