-- The attributes of a canonical name have no fault, and choose what the native has.
use Rattle.name_encoder.proofs.Words.{◌≡◌, ◌∙◌, ◌+◌, ◌<◌, ◌≤◌, ◌==◌, ◌&&◌, ◌∷◌, ◌++◌, ℕ, Bool, true, false, List, [], Option, Some, None, refl, sym}
use Rattle.name_encoder.proofs.Words.{ap, subst, arith, nat_lt, nat_eq, decimal, append_assoc, append-nil, is_none, ⊤, AllByRecursion, list_any}
use Rattle.name_encoder.proofs.Words.{option_map_or, agree_below, agree_below_at, eqb-true, ne_eqb, MaskText, Text, decimal_in, hex_in, is_decimal}
use Rattle.name_encoder.proofs.Words.{is_numeral, all-append, all-map, Mods, Meaning, Modifier, SaidAttribute, clashes, cmask, cmask_value, edge}
use Rattle.name_encoder.proofs.Words.{fault_from, flag_value, invert, kernel, mask, means, modifier, names_alone, names_mask, rank, row_alone}
use Rattle.name_encoder.proofs.Words.{said_fault, same_meaning, user, value_of, digits}
use Rattle.name_encoder.proofs.Saids.{mask_saids, mod_said, mod_saids, said_if}

-- ---- umasks

-- it names a umask of a row below k, of which F holds
pub record RowSaid (F : ℕ → Type 0) (k : ℕ) (s : SaidAttribute) : Type 0 where
  row : ℕ
  meaning_is : s.meaning ≡ Some (mask row)
  less : row < k
  flagged : F row

-- F holds of each row of these flags that is set, of which the first is row k
unfoldable pub AllFlags : (ℕ → Type 0) → ℕ → List Bool → Type 0
AllFlags F k [] = ⊤
AllFlags F k (b ∷ flags) = (b ≡ true → F k) × AllFlags F (k + 1) flags

-- two rows of which F holds can be combined
abbrev pub Combine : List MaskText → (ℕ → Type 0) → Type 0
Combine masks F = (i j : ℕ) → (i == j) ≡ false → F i → F j → row_alone masks i ≡ false

row-more : (F : ℕ → Type 0) (k : ℕ) (s : SaidAttribute) → RowSaid F k s → RowSaid F (k + 1) s
row-more F k s r = record { row = r.row; meaning_is = r.meaning_is; less = omega (arith, r.less); flagged = r.flagged }

rows-more : (F : ℕ → Type 0) (k : ℕ) (above : List SaidAttribute) → AllByRecursion (RowSaid F k) above → AllByRecursion (RowSaid F (k + 1)) above
rows-more F k above h = all-map (RowSaid F k) (RowSaid F (k + 1)) above (λ s r. row-more F k s r) h

any-none : {X : Type 0} (p : X → Bool) (xs : List X) → AllByRecursion (λ x. p x ≡ false) xs → list_any p xs ≡ false
any-none p [] h = refl
any-none p (x ∷ xs) h = rw h.0 (any-none p xs h.1)

row-other : (F : ℕ → Type 0) (k i : ℕ) (s : SaidAttribute) → k ≤ i → RowSaid F k s → means (mask i) s ≡ false
row-other F k i s le r =
    let ne : (i == r.row) ≡ false = ne_eqb i r.row (λ e. absurd (omega (arith, e, r.less, le))) in
    rw r.meaning_is ne

row-free : (masks : List MaskText) (F : ℕ → Type 0) (k : ℕ) (s : SaidAttribute) → Combine masks F → F k → RowSaid F k s → names_alone masks s ≡ false
row-free masks F k s pairs flag r =
    let ne : (r.row == k) ≡ false = ne_eqb r.row k (λ e. absurd (omega (arith, e, r.less))) in
    rw r.meaning_is (pairs r.row k ne r.flagged flag)

abbrev mask_said : ℕ → SaidAttribute
mask_said k = record { meaning = Some (mask k); value = None }

no-clash : (masks : List MaskText) (F : ℕ → Type 0) (above : List SaidAttribute) (k : ℕ) → Combine masks F → AllByRecursion (RowSaid F k) above → F k → clashes masks above (mask_said k) ≡ false
no-clash masks F [] k pairs h flag = refl
no-clash masks F (a ∷ above) k pairs h flag =
    let ne : (k == h.0.row) ≡ false = ne_eqb k h.0.row (λ e. absurd (omega (arith, e, h.0.less))) in
    let own : names_alone masks (mask_said k) ≡ false = pairs k h.0.row ne flag h.0.flagged in
    let all = all-append (λ s. names_alone masks s ≡ false) (a ∷ above) (mask_said k ∷ [])
    (all-map (RowSaid F k) (λ s. names_alone masks s ≡ false) (a ∷ above) (λ s r. row-free masks F k s pairs flag r) h) (own, tt) in
    let free : list_any (names_alone masks) ((a ∷ above) ++ mask_said k ∷ []) ≡ false = any-none (names_alone masks) ((a ∷ above) ++ mask_said k ∷ []) all in
    rw free (and-false (list_any names_mask (a ∷ above)))
  where
    and-false : (b : Bool) → (b && false) ≡ false
    and-false true = refl
    and-false false = refl

mask-faultless : (masks : List MaskText) (F : ℕ → Type 0) (above : List SaidAttribute) (k : ℕ) → Combine masks F → AllByRecursion (RowSaid F k) above → F k → said_fault masks above (mask_said k) ≡ None
mask-faultless masks F above k pairs h flag =
    let apart : list_any (means (mask k)) above ≡ false = any-none (means (mask k)) above (all-map (RowSaid F k) (λ s. means (mask k) s ≡ false) above (λ s r. row-other F k k s (omega arith) r) h) in
    let free = no-clash masks F above k pairs h flag in
    rw (apart, free) refl

pub masks-faultless : (masks : List MaskText) (F : ℕ → Type 0) (above : List SaidAttribute) (k : ℕ) (flags : List Bool) (tail : List SaidAttribute) → Combine masks F
    → AllByRecursion (RowSaid F k) above → AllFlags F k flags
    → fault_from masks above (mask_saids k flags ++ tail) ≡ fault_from masks (above ++ mask_saids k flags) tail
unfolding AllFlags mask_saids fault_from
masks-faultless masks F above k [] tail pairs h a = ap (λ (t : List SaidAttribute). fault_from masks t tail) (sym (append-nil above))
masks-faultless masks F above k (true ∷ flags) tail pairs h a =
    let own : RowSaid F (k + 1) (mask_said k) = record { row = k; meaning_is = refl; less = omega arith; flagged = a.0 refl } in
    let more = masks-faultless masks F (above ++ mask_said k ∷ []) (k + 1) flags tail pairs (all-append (RowSaid F (k + 1)) above (mask_said k ∷ []) (rows-more F k above h) (own, tt)) a.1 in
    rw (mask-faultless masks F above k pairs h (a.0 refl)) (more ∙ ap (λ (t : List SaidAttribute). fault_from masks t tail) (append_assoc above (mask_said k ∷ []) (mask_saids (k + 1) flags)))
masks-faultless masks F above k (false ∷ flags) tail pairs h a = masks-faultless masks F above (k + 1) flags tail pairs (rows-more F k above h) a.1

-- ---- modifiers

-- it names a umask, or a modifier of a lower rank
abbrev pub lower_at : ℕ → Option Meaning → Type 0
lower_at r None = ⊥
lower_at r (Some (mask row)) = ⊤
lower_at r (Some (modifier m)) = rank m < r

abbrev pub Lower : ℕ → SaidAttribute → Type 0
Lower r s = lower_at r s.meaning

lower-other : (m : Modifier) (o : Option Meaning) → lower_at (rank m) o → option_map_or (same_meaning (modifier m)) o false ≡ false
lower-other m None h = absurd h
lower-other m (Some (mask row)) h = refl
lower-other m (Some (modifier n)) h = ne_eqb (rank m) (rank n) (λ e. absurd (omega (arith, e, h)))

lower-more : (r : ℕ) (o : Option Meaning) → lower_at r o → lower_at (r + 1) o
lower-more r (Some (modifier n)) h = omega (arith, h)
lower-more r o h = h

mod-faultless : (masks : List MaskText) (above : List SaidAttribute) (m : Modifier) (v : Option Text) → is_none (value_of (modifier m) v) ≡ false
    → AllByRecursion (Lower (rank m)) above → said_fault masks above (mod_said m v) ≡ None
mod-faultless masks above m v e h =
    let apart : list_any (means (modifier m)) above ≡ false = any-none (means (modifier m)) above
    (all-map (Lower (rank m)) (λ s. means (modifier m) s ≡ false) above (λ s l. lower-other m s.meaning l) h) in
    rw (apart, e) refl

pub record ModStep (masks : List MaskText) (above : List SaidAttribute) (b : Bool) (m : Modifier) (v : Option Text) (rest : List SaidAttribute) : Type 0 where
  same : fault_from masks above (said_if b m v ++ rest) ≡ fault_from masks (above ++ said_if b m v) rest
  more : AllByRecursion (Lower (rank m + 1)) (above ++ said_if b m v)

mod-step : (masks : List MaskText) (above : List SaidAttribute) (b : Bool) (m : Modifier) (v : Option Text) (rest : List SaidAttribute) → (b ≡ true → is_none (value_of (modifier m) v) ≡ false)
    → AllByRecursion (Lower (rank m)) above → ModStep masks above b m v rest
unfolding fault_from
mod-step masks above true m v rest e h =
    let wider = all-map (Lower (rank m)) (Lower (rank m + 1)) above (λ s l. lower-more (rank m) s.meaning l) h in
    record { same = rw (mod-faultless masks above m v (e refl) h) refl; more = all-append (Lower (rank m + 1)) above (mod_said m v ∷ []) wider (omega arith, tt) }
mod-step masks above false m v rest e h =
    let wider = all-map (Lower (rank m)) (Lower (rank m + 1)) above (λ s l. lower-more (rank m) s.meaning l) h in
    record { same = ap (λ (t : List SaidAttribute). fault_from masks t rest) (sym (append-nil above)); more = subst (AllByRecursion (Lower (rank m + 1))) (sym (append-nil above)) wider }

-- the text of a counter mask reads back
abbrev reads_back : ℕ → Bool
reads_back n = option_map_or (nat_eq n) (cmask_value (Some (decimal n))) false

some-is : (n : ℕ) (o : Option ℕ) → option_map_or (nat_eq n) o false ≡ true → o ≡ Some n
some-is n None e = cc e
some-is n (Some k) e = ap (λ (x : ℕ). Some x) (sym (eqb-true n k e))

all-read : agree_below reads_back (λ n. true) 256 ≡ true
unfolding cmask_value decimal_in hex_in is_decimal is_numeral digits
all-read = refl

pub cmask-back : (n : ℕ) → n < 256 → cmask_value (Some (decimal n)) ≡ Some n
cmask-back n lt = some-is n (cmask_value (Some (decimal n))) (agree_below_at reads_back (λ k. true) 256 n all-read lt)

pub mods-faultless : (masks : List MaskText) (above : List SaidAttribute) (m : Mods) → m.cmask < 256 → AllByRecursion (Lower 0) above → fault_from masks above (mod_saids m) ≡ None
unfolding fault_from flag_value
mods-faultless masks above m lt h =
    let tail = said_if (nat_lt 0 m.cmask) cmask (Some (decimal m.cmask)) in
    let a = mod-step masks above m.user user None (said_if m.kernel kernel None ++ (said_if m.edge edge None ++ (said_if m.invert invert None ++ tail))) (λ e. refl) h in
    let above1 = above ++ said_if m.user user None in
    let b = mod-step masks above1 m.kernel kernel None (said_if m.edge edge None ++ (said_if m.invert invert None ++ tail)) (λ e. refl) a.more in
    let above2 = above1 ++ said_if m.kernel kernel None in
    let c = mod-step masks above2 m.edge edge None (said_if m.invert invert None ++ tail) (λ e. refl) b.more in
    let above3 = above2 ++ said_if m.edge edge None in
    let d = mod-step masks above3 m.invert invert None tail (λ e. refl) c.more in
    let above4 = above3 ++ said_if m.invert invert None in
    let f = mod-step masks above4 (nat_lt 0 m.cmask) cmask (Some (decimal m.cmask)) [] (λ e. rw (cmask-back m.cmask lt) refl) d.more in
    a.same ∙ b.same ∙ c.same ∙ d.same ∙ ap (fault_from masks above4) (sym (append-nil tail)) ∙ f.same
