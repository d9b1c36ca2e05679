-- The native event of one umask alone.
use Rattle.tool_output.proofs.Words.{◌≡◌, ◌∙◌, ◌+◌, ◌*◌, ◌%◌, ◌<◌, ◌≤◌, ◌^◌, ◌∷◌, ℕ, zero, suc, Bool, true, false, List, [], Some, length, map}
use Rattle.tool_output.proofs.Words.{slice_get, take, refl, ap, ap₂, arith, set, AllByRecursion, unary_clauses, pow-lt, bit_or, or_zero_l, or_zero_r}
use Rattle.tool_output.proofs.Words.{MaskText, bits_of, values_of, alone}

no_bits : (masks : List MaskText) → bits_of (map (λ m. false) masks) ≡ 0
unfolding bits_of
no_bits [] = refl
no_bits (m ∷ masks) = ap (λ n. 0 + 2 * n) (no_bits masks)

doubled : (row : ℕ) → 0 + 2 * 2 ^ row ≡ 2 ^ suc row
doubled row = simp unary_clauses (omega arith)

-- its flag alone is set
none-set : (flags : List Bool) (masks : List MaskText) → length masks ≤ length flags → AllByRecursion (λ b. b ≡ false) flags → take (length masks) flags ≡ map (λ m. false) masks
none-set flags [] le h = refl
none-set [] (m ∷ masks) le h = absurd (omega arith)
none-set (b ∷ flags) (m ∷ masks) le h = ap₂ (λ (x : Bool) (xs : List Bool). x ∷ xs) h.0 (none-set flags masks (omega (arith, le)) h.1)

pub flag-alone : (flags : List Bool) (masks : List MaskText) (row : ℕ) → length masks ≤ length flags → AllByRecursion (λ b. b ≡ false) flags → row < length masks
    → take (length masks) (set flags row true) ≡ alone row masks
flag-alone flags [] row le h lt = absurd (omega arith)
flag-alone [] (m ∷ masks) row le h lt = absurd (omega arith)
flag-alone (b ∷ flags) (m ∷ masks) zero le h lt = ap (λ (xs : List Bool). true ∷ xs) (none-set flags masks (omega (arith, le)) h.1)
flag-alone (b ∷ flags) (m ∷ masks) (suc row) le h lt = ap₂ (λ (x : Bool) (xs : List Bool). x ∷ xs) h.0 (flag-alone flags masks row (omega (arith, le)) h.1 (omega (arith, lt)))

-- its bit alone is set
pub bits-alone : (row : ℕ) (masks : List MaskText) → row < length masks → bits_of (alone row masks) ≡ 2 ^ row
unfolding bits_of
bits-alone row [] small = absurd (omega arith)
bits-alone zero (m ∷ masks) small = ap (λ n. 1 + 2 * n) (no_bits masks)
bits-alone (suc row) (m ∷ masks) small = ap (λ n. 0 + 2 * n) (bits-alone row masks (omega arith)) ∙ doubled row

no_values : (masks : List MaskText) → values_of (map (λ m. false) masks) masks ≡ 0
unfolding values_of
no_values [] = refl
no_values (m ∷ masks) = ap (bit_or 0) (no_values masks)

-- the bit of a row below 16
pub bit_of_row : (row : ℕ) → row < 16 → 1 * 2 ^ row % 65536 ≡ 2 ^ row
bit_of_row row small = let below : 2 ^ row < 2 ^ 16 = pow-lt small in omega (arith, below)

-- its value alone is taken
pub values-alone : (row : ℕ) (masks : List MaskText) (m : MaskText) → slice_get masks row ≡ Some m → values_of (alone row masks) masks ≡ m.bits
unfolding values_of
values-alone row [] m h = cc h
values-alone zero (x ∷ masks) m h = let same : x ≡ m = cc h in ap (bit_or x.bits) (no_values masks) ∙ or_zero_r x.bits ∙ ap (λ (k : MaskText). k.bits) same
values-alone (suc row) (x ∷ masks) m h = ap (bit_or 0) (values-alone row masks m h) ∙ or_zero_l m.bits
