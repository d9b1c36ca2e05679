-- What the natives of a row keep, and its symbol.
use Rattle.preset_csv.proofs.Words.{◌≡◌, ◌≤◌, ◌==◌, ◌∷◌, ℕ, zero, suc, Bool, true, false, not, List, [], map, drop, length, refl, subst, nat_lt}
use Rattle.preset_csv.proofs.Words.{Result, Ok, Err, if◌then◌else◌, AllByRecursion, list_all, and_parts, cond_both, ltb-false, IsInner, IsPlainField}
use Rattle.preset_csv.proofs.Words.{IsReadRow, Text, is_printable, text_at, trimmed, trimmed-all, trimmed-once, MOST_NATIVES, IsNativeText}
use Rattle.preset_csv.proofs.Words.{ends_natives, kept_natives, derivation_of, natives_from, natives_in, PresetCause}
use Rattle.preset_csv.specs.declared.fault.PresetCause.TheVariants as cause

-- what a field keeps once it is trimmed
abbrev pub IsCut : Text → Type 0
IsCut t = IsPlainField t × (trimmed t ≡ t)

abbrev pub IsNative : Text → Type 0
IsNative t = IsCut t × (ends_natives t ≡ false)

pub cut-trimmed : (fields : List Text) → IsReadRow fields → AllByRecursion IsCut (map trimmed fields)
cut-trimmed [] h = tt
cut-trimmed (t ∷ fields) h = ((trimmed-all IsInner t h.0, trimmed-once t), cut-trimmed fields h.1)

pub cut-natives : (fields : List Text) → AllByRecursion IsCut fields → AllByRecursion IsNative (natives_in fields)
unfolding natives_in
cut-natives [] h = tt
cut-natives (t ∷ fields) h = cond_both (ends_natives t) [] (t ∷ natives_in fields) (AllByRecursion IsNative) (λ b. tt) (λ b. ((h.0, b), cut-natives fields h.1))

pub read-drop : (n : ℕ) (fields : List Text) → IsReadRow fields → IsReadRow (drop n fields)
read-drop zero fields h = h
read-drop (suc n) [] h = tt
read-drop (suc n) (t ∷ fields) h = read-drop n fields h.1

pub texts-kept : (natives : List Text) → AllByRecursion IsNative natives → list_all is_printable natives ≡ true → AllByRecursion IsNativeText natives
texts-kept [] h p = tt
texts-kept (t ∷ natives) h p =
    let q = and_parts (is_printable t) (list_all is_printable natives) p in
    (record { printable = q.0; no_comma = no-comma t h.0.0.0; whole = h.0.0.1; goes_on = h.0.1 }, texts-kept natives h.1 q.1)
  where
    no-comma : (u : Text) → IsPlainField u → list_all (λ b. not (b == 44)) u ≡ true
    no-comma [] k = refl
    no-comma (b ∷ u) k = rw k.0.0 (no-comma u k.1)

-- natives of a row that are printable
pub natives-kept : (fields : List Text) (first : ℕ) → IsReadRow fields → list_all is_printable (natives_from fields first) ≡ true
    → AllByRecursion IsNativeText (natives_from fields first)
natives-kept fields first h p = texts-kept _ (cut-natives _ (cut-trimmed (drop first fields) (read-drop first fields h))) p

-- natives that are kept are printable, and not too many
pub kept-is : (natives kept : List Text) → kept_natives natives ≡ Ok kept → (natives ≡ kept) × (list_all is_printable natives ≡ true) × (length kept ≤ MOST_NATIVES)
kept-is natives kept e = go (list_all is_printable natives) (nat_lt MOST_NATIVES (length natives)) refl refl e
  where
    judged : Bool → Bool → Result (List Text) PresetCause
    judged b c = if not b then Err cause.BadField else if c then Err cause.OverLimit else Ok natives

    go : (b c : Bool) → list_all is_printable natives ≡ b → nat_lt MOST_NATIVES (length natives) ≡ c → judged b c ≡ Ok kept
        → (natives ≡ kept) × (list_all is_printable natives ≡ true) × (length kept ≤ MOST_NATIVES)
    go false c p q h = cc h
    go true true p q h = cc h
    go true false p q h = let is : natives ≡ kept = cc h in (is, p, subst (λ (k : List Text). length k ≤ MOST_NATIVES) is (ltb-false MOST_NATIVES (length natives) q))

-- and stand in a row
pub found-kept : (fields : List Text) (first : ℕ) (natives : List Text) → IsReadRow fields → kept_natives (natives_from fields first) ≡ Ok natives → AllByRecursion IsNativeText natives
found-kept fields first natives h e = let k = kept-is (natives_from fields first) natives e in subst (AllByRecursion IsNativeText) k.0 (natives-kept fields first h k.1)

-- the symbol of a row stands in its second field
pub symbol-there : (fields : List Text) → (derivation_of fields).symbol ≡ text_at fields 1
unfolding derivation_of
symbol-there fields = refl
