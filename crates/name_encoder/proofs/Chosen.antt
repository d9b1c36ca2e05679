-- What the attributes of a canonical name choose, and what those of any name may choose.
use Rattle.name_encoder.proofs.Words.{◌≡◌, ◌∙◌, ◌+◌, ◌<◌, ◌≤◌, ◌==◌, ◌&&◌, ◌∷◌, ◌++◌, ◌⊎◌, ℕ, zero, suc, Bool, true, false, List, [], Option, Some}
use Rattle.name_encoder.proofs.Words.{None, length, find, slice_get, refl, sym, ap, ap₂, subst, arith, tests, nat_lt, decimal, inl, inr, unwrap_or}
use Rattle.name_encoder.proofs.Words.{is_none, append_assoc, append-nil, if◌then◌else◌, AllByRecursion, list_any, option_map_or, option_or, cond_both}
use Rattle.name_encoder.proofs.Words.{eq-eqb, eqb-true, ne_eqb, or_cases, or_left, or_parts, or_right, length-append, length-map, list_any-append}
use Rattle.name_encoder.proofs.Words.{passed_over, NoTwo, MaskText, Text, Mods, NameFault, Meaning, Modifier, SaidAttribute, choices, chosen, clashes}
use Rattle.name_encoder.proofs.Words.{cmask, edge, fault_from, flag_value, has_true, invert, kernel, mask, meaning_fault, means, mods_of, modifier}
use Rattle.name_encoder.proofs.Words.{named_from, names_alone, names_mask, rank, row_alone, said_fault, same_meaning, set_to, user, value_of}
use Rattle.name_encoder.proofs.Words.{or-false}
use Rattle.name_encoder.specs.declared.fault.NameFault.TheVariants as name_fault
use Rattle.name_encoder.proofs.Faultless.{AllFlags, Combine, cmask-back}
use Rattle.name_encoder.proofs.Saids.{mask_saids, mod_said, mod_saids, said_if}

-- ---- the named umasks of a canonical name

-- rows from k on do not name a row before k
masks-later : (i k : ℕ) (flags : List Bool) → i < k → list_any (means (mask i)) (mask_saids k flags) ≡ false
unfolding mask_saids
masks-later i k [] lt = refl
masks-later i k (true ∷ flags) lt = rw (ne_eqb i k (λ e. absurd (omega (arith, e, lt)))) (masks-later i (k + 1) flags (omega (arith, lt)))
masks-later i k (false ∷ flags) lt = masks-later i (k + 1) flags (omega (arith, lt))

first-flag : (k : ℕ) (b : Bool) (flags : List Bool) → list_any (means (mask k)) (mask_saids k (b ∷ flags)) ≡ b
unfolding mask_saids
first-flag k true flags = rw (eq-eqb k k refl) refl
first-flag k false flags = masks-later k (k + 1) flags (omega arith)

later-flags : (i k : ℕ) (b : Bool) (flags : List Bool) → k + 1 ≤ i → list_any (means (mask i)) (mask_saids k (b ∷ flags)) ≡ list_any (means (mask i)) (mask_saids (k + 1) flags)
unfolding mask_saids
later-flags i k true flags le = rw (ne_eqb i k (λ e. absurd (omega (arith, e, le)))) refl
later-flags i k false flags le = refl

named-flags : (whole : List SaidAttribute) (k : ℕ) (flags : List Bool) (masks : List MaskText) → length flags ≡ length masks
    → ((i : ℕ) → k ≤ i → list_any (means (mask i)) whole ≡ list_any (means (mask i)) (mask_saids k flags)) → named_from whole k masks ≡ flags
unfolding named_from
named-flags whole k [] [] n h = refl
named-flags whole k [] (m ∷ masks) n h = absurd (omega arith)
named-flags whole k (b ∷ flags) [] n h = absurd (omega arith)
named-flags whole k (b ∷ flags) (m ∷ masks) n h =
    ap₂ (λ (x : Bool) (xs : List Bool). x ∷ xs) (h k (omega arith) ∙ first-flag k b flags)
    (named-flags whole (k + 1) flags masks (omega arith) (λ i le. h i (omega (arith, le)) ∙ later-flags i k b flags le))

-- modifiers name no umask
mod-no-mask : (i : ℕ) (b : Bool) (m : Modifier) (v : Option Text) (rest : List SaidAttribute) → list_any (means (mask i)) (said_if b m v ++ rest) ≡ list_any (means (mask i)) rest
mod-no-mask i true m v rest = refl
mod-no-mask i false m v rest = refl

mods-no-mask : (i : ℕ) (m : Mods) → list_any (means (mask i)) (mod_saids m) ≡ false
mods-no-mask i m =
    mod-no-mask i m.user user None _ ∙ mod-no-mask i m.kernel kernel None _ ∙ mod-no-mask i m.edge edge None _ ∙ mod-no-mask i m.invert invert None _ ∙ last (nat_lt 0 m.cmask)
  where
    last : (b : Bool) → list_any (means (mask i)) (said_if b cmask (Some (decimal m.cmask))) ≡ false
    last true = refl
    last false = refl

pub named-own : (flags : List Bool) (m : Mods) (masks : List MaskText) → length flags ≡ length masks → named_from (mask_saids 0 flags ++ mod_saids m) 0 masks ≡ flags
named-own flags m masks n =
    named-flags (mask_saids 0 flags ++ mod_saids m) 0 flags masks n
    (λ i le. list_any-append (means (mask i)) (mask_saids 0 flags) (mod_saids m) ∙ rw (mods-no-mask i m) (or-false (list_any (means (mask i)) (mask_saids 0 flags))))

-- ---- the modifiers of a canonical name

find-masks : (m : Modifier) (k : ℕ) (flags : List Bool) (rest : List SaidAttribute) → find (means (modifier m)) (mask_saids k flags ++ rest) ≡ find (means (modifier m)) rest
unfolding mask_saids
find-masks m k [] rest = refl
find-masks m k (true ∷ flags) rest = find-masks m (k + 1) flags rest
find-masks m k (false ∷ flags) rest = find-masks m (k + 1) flags rest

find-other : (m n : Modifier) (b : Bool) (v : Option Text) (rest : List SaidAttribute) → (rank m == rank n) ≡ false → find (means (modifier m)) (said_if b n v ++ rest) ≡ find (means (modifier m)) rest
find-other m n true v rest e = rw e refl
find-other m n false v rest e = refl

find-own : (m : Modifier) (b : Bool) (v : Option Text) (rest : List SaidAttribute) → find (means (modifier m)) rest ≡ None
    → find (means (modifier m)) (said_if b m v ++ rest) ≡ (if b then Some (mod_said m v) else None)
find-own m true v rest e = rw (eq-eqb (rank m) (rank m) refl) refl
find-own m false v rest e = e

last-other : (m : Modifier) (b : Bool) (v : Option Text) → (rank m == 4) ≡ false → find (means (modifier m)) (said_if b cmask v) ≡ None
last-other m true v e = rw e refl
last-other m false v e = refl

last-own : (b : Bool) (v : Option Text) → find (means (modifier cmask)) (said_if b cmask v) ≡ (if b then Some (mod_said cmask v) else None)
last-own true v = refl
last-own false v = refl

flag-set : (m : Modifier) (b : Bool) → value_of (modifier m) None ≡ Some 1
    → nat_lt 0 (option_map_or (λ s. unwrap_or (value_of (modifier m) s.value) 0) (if b then Some (mod_said m None) else None) 0) ≡ b
flag-set m true e = rw e refl
flag-set m false e = refl

count-set : (n : ℕ) → n < 256 → option_map_or (λ (s : SaidAttribute). unwrap_or (value_of (modifier cmask) s.value) 0) (if nat_lt 0 n then Some (mod_said cmask (Some (decimal n))) else None) 0 ≡ n
count-set n lt =
    cond_both (nat_lt 0 n) (Some (mod_said cmask (Some (decimal n)))) None (λ (o : Option SaidAttribute). option_map_or (λ s. unwrap_or (value_of (modifier cmask) s.value) 0) o 0 ≡ n)
    (λ e. rw (cmask-back n lt) refl) (λ e. grind (arith, tests, e))

-- what a canonical name says of a modifier, if it says something
abbrev pub own_said : Bool → Modifier → Option Text → Option SaidAttribute
own_said b m v = if b then Some (mod_said m v) else None

pub record OwnSaids (m : Mods) (said : List SaidAttribute) : Type 0 where
  pub u : find (means (modifier user)) said ≡ own_said m.user user None
  pub k : find (means (modifier kernel)) said ≡ own_said m.kernel kernel None
  pub e : find (means (modifier edge)) said ≡ own_said m.edge edge None
  pub i : find (means (modifier invert)) said ≡ own_said m.invert invert None
  pub c : find (means (modifier cmask)) said ≡ own_said (nat_lt 0 m.cmask) cmask (Some (decimal m.cmask))

pub own-saids-found : (flags : List Bool) (m : Mods) → OwnSaids m (mask_saids 0 flags ++ mod_saids m)
own-saids-found flags m =
    let tail = said_if (nat_lt 0 m.cmask) cmask (Some (decimal m.cmask)) in
    let f4 = said_if m.invert invert None ++ tail in
    let f3 = said_if m.edge edge None ++ f4 in
    let f2 = said_if m.kernel kernel None ++ f3 in
    let u = find-masks user 0 flags (mod_saids m)
    ∙ find-own user m.user None f2 (find-other user kernel m.kernel None f3 refl ∙ find-other user edge m.edge None f4 refl
    ∙ find-other user invert m.invert None tail refl ∙ last-other user (nat_lt 0 m.cmask) _ refl) in
    let k = find-masks kernel 0 flags (mod_saids m) ∙ find-other kernel user m.user None f2 refl
    ∙ find-own kernel m.kernel None f3 (find-other kernel edge m.edge None f4 refl ∙ find-other kernel invert m.invert None tail refl ∙ last-other kernel (nat_lt 0 m.cmask) _ refl) in
    let e = find-masks edge 0 flags (mod_saids m) ∙ find-other edge user m.user None f2 refl ∙ find-other edge kernel m.kernel None f3 refl
    ∙ find-own edge m.edge None f4 (find-other edge invert m.invert None tail refl ∙ last-other edge (nat_lt 0 m.cmask) _ refl) in
    let i = find-masks invert 0 flags (mod_saids m) ∙ find-other invert user m.user None f2 refl ∙ find-other invert kernel m.kernel None f3 refl ∙ find-other invert edge m.edge None f4 refl
    ∙ find-own invert m.invert None tail (last-other invert (nat_lt 0 m.cmask) _ refl) in
    let c = find-masks cmask 0 flags (mod_saids m) ∙ find-other cmask user m.user None f2 refl ∙ find-other cmask kernel m.kernel None f3 refl ∙ find-other cmask edge m.edge None f4 refl
    ∙ find-other cmask invert m.invert None tail refl ∙ last-own (nat_lt 0 m.cmask) _ in
    record { u = u; k = k; e = e; i = i; c = c }

pub mods-own : (flags : List Bool) (m : Mods) → m.cmask < 256 → mods_of (mask_saids 0 flags ++ mod_saids m) ≡ m
unfolding set_to flag_value
mods-own flags m lt =
    let own = own-saids-found flags m in
    rw (own.u, own.k, own.e, own.i, own.c) (rw (flag-set user m.user refl, flag-set kernel m.kernel refl, flag-set edge m.edge refl, flag-set invert m.invert refl, count-set m.cmask lt) refl)

-- ---- faultless attributes: two umasks that they name can be combined

abbrev pub Named : List SaidAttribute → ℕ → Type 0
Named said i = list_any (means (mask i)) said ≡ true

mask-meant : (i : ℕ) (o : Option Meaning) → option_map_or (same_meaning (mask i)) o false ≡ true → o ≡ Some (mask i)
mask-meant i (Some (mask j)) e = ap (λ (x : ℕ). Some (mask x)) (sym (eqb-true i j e))
mask-meant i o e = cc e

named-mask : (said : List SaidAttribute) (i : ℕ) → Named said i → list_any names_mask said ≡ true
named-mask [] i e = cc e
named-mask (s ∷ said) i e = elim (or_cases (means (mask i) s) (list_any (means (mask i)) said) e) [
  | inl t ↦ or_left (names_mask s) (list_any names_mask said) (rw (mask-meant i s.meaning t) refl)
  | inr t ↦ or_right (names_mask s) (list_any names_mask said) (named-mask said i t)
]

none-alone : (masks : List MaskText) (said : List SaidAttribute) (i : ℕ) → list_any (names_alone masks) said ≡ false → Named said i → row_alone masks i ≡ false
none-alone masks [] i f e = cc e
none-alone masks (s ∷ said) i f e =
    let q = or_parts (names_alone masks s) (list_any (names_alone masks) said) f in
    elim (or_cases (means (mask i) s) (list_any (means (mask i)) said) e) [
      | inl t ↦ rw (mask-meant i s.meaning t) at q.0
      | inr t ↦ none-alone masks said i q.1 t
    ]

-- a faultless attribute that names a umask does not clash
mask-clear : (masks : List MaskText) (above : List SaidAttribute) (s : SaidAttribute) (i : ℕ) → said_fault masks above s ≡ None → s.meaning ≡ Some (mask i) → clashes masks above s ≡ false
mask-clear masks above s i e is =
    let seen = passed_over (list_any (means (mask i)) above) name_fault.AttrSet _ (subst (λ (o : Option Meaning). option_map_or (meaning_fault masks above s) o (Some name_fault.Attr) ≡ None) is e) in
    let valued = passed_over (is_none (value_of (mask i) s.value)) name_fault.AttrVal _ seen.1 in
    (passed_over (clashes masks above s) name_fault.FeatComb None valued.1).0

free-after : (masks : List MaskText) (above : List SaidAttribute) (s : SaidAttribute) (i j : ℕ) → said_fault masks above s ≡ None → s.meaning ≡ Some (mask j) → Named above i
    → list_any (names_alone masks) (above ++ s ∷ []) ≡ false
free-after masks above s i j e is n =
    let clear = mask-clear masks above s j e is in
    let own : names_mask s ≡ true = rw is refl in
    rw (own, named-mask above i n) at clear

combine-more : (masks : List MaskText) (above : List SaidAttribute) (s : SaidAttribute) → said_fault masks above s ≡ None → Combine masks (Named above) → Combine masks (Named (above ++ s ∷ []))
combine-more masks above s e h i j ne ni nj = go (split i ni) (split j nj)
  where
    split : (x : ℕ) → Named (above ++ s ∷ []) x → (Named above x) ⊎ (s.meaning ≡ Some (mask x))
    split x n = elim (or_cases (list_any (means (mask x)) above) (list_any (means (mask x)) (s ∷ [])) (sym (list_any-append (means (mask x)) above (s ∷ [])) ∙ n)) [
      | inl t ↦ inl t
      | inr t ↦ inr (mask-meant x s.meaning (sym (or-false (means (mask x) s)) ∙ t))
    ]

    go : (Named above i) ⊎ (s.meaning ≡ Some (mask i)) → (Named above j) ⊎ (s.meaning ≡ Some (mask j)) → row_alone masks i ≡ false
    go (inl a) (inl b) = h i j ne a b
    go (inl a) (inr b) = none-alone masks (above ++ s ∷ []) i (free-after masks above s i j e b a) ni
    go (inr a) (inl b) = none-alone masks (above ++ s ∷ []) i (free-after masks above s j i e a b) ni
    go (inr a) (inr b) =
        let same : i ≡ j = cc (sym a ∙ b) in
        cc (sym (eq-eqb i j same) ∙ ne)

pub faultless-combine : (masks : List MaskText) (above rest : List SaidAttribute) → fault_from masks above rest ≡ None → Combine masks (Named above) → Combine masks (Named (above ++ rest))
unfolding fault_from
faultless-combine masks above [] e h = subst (λ (t : List SaidAttribute). Combine masks (Named t)) (sym (append-nil above)) h
faultless-combine masks above (s ∷ rest) e h = go (said_fault masks above s) refl e (λ q p. faultless-combine masks (above ++ s ∷ []) rest q p)
  where
    go : (o : Option NameFault) → said_fault masks above s ≡ o → option_or o (fault_from masks (above ++ s ∷ []) rest) ≡ None
        → (fault_from masks (above ++ s ∷ []) rest ≡ None → Combine masks (Named (above ++ s ∷ [])) → Combine masks (Named ((above ++ s ∷ []) ++ rest)))
        → Combine masks (Named (above ++ s ∷ rest))
    go (Some f) o_is q more = cc q
    go None o_is q more = subst (λ (t : List SaidAttribute). Combine masks (Named t)) (append_assoc above (s ∷ []) rest) (more q (combine-more masks above s o_is h))

-- ---- what may be chosen

-- flags that are chosen once more by their own canonical name
pub record Choice (masks : List MaskText) (flags : List Bool) : Type 1 where
  pub F : ℕ → Type 0
  pub pairs : Combine masks F
  pub all : AllFlags F 0 flags
  pub len : length flags ≡ length masks
  pub again : chosen masks flags ≡ Some flags

named-all : (said : List SaidAttribute) (k : ℕ) (masks : List MaskText) → AllFlags (Named said) k (named_from said k masks)
unfolding AllFlags named_from
named-all said k [] = tt
named-all said k (m ∷ masks) = ((λ e. e), named-all said (k + 1) masks)

named-length : (said : List SaidAttribute) (k : ℕ) (masks : List MaskText) → length (named_from said k masks) ≡ length masks
unfolding named_from
named-length said k [] = refl
named-length said k (m ∷ masks) = ap suc (named-length said (k + 1) masks)

-- the row's umask is the default one
abbrev Default : List MaskText → ℕ → Type 0
Default masks i = option_map_or (λ (m : MaskText). m.preset_choice) (slice_get masks i) false ≡ true

default-all : (all above rest : List MaskText) → all ≡ above ++ rest → AllFlags (Default all) (length above) (choices rest)
unfolding AllFlags
default-all all above [] is = tt
default-all all above (m ∷ rest) is =
    let len : length (above ++ m ∷ []) ≡ length above + 1 = length-append above (m ∷ []) ∙ omega arith in
    let more = default-all all (above ++ m ∷ []) rest (is ∙ sym (append_assoc above (m ∷ []) rest)) in
    ((λ e. rw (is, get-middle above m rest) e), subst (λ (k : ℕ). AllFlags (Default all) k (choices rest)) len more)
  where
    get-middle : (xs : List MaskText) (x : MaskText) (ys : List MaskText) → slice_get (xs ++ x ∷ ys) (length xs) ≡ Some x
    get-middle [] x ys = refl
    get-middle (y ∷ xs) x ys = get-middle xs x ys

-- two rows are not both the default one
not-both : (m : MaskText) (masks : List MaskText) (j : ℕ) → AllByRecursion (λ (y : MaskText). (m.preset_choice && y.preset_choice) ≡ false) masks → m.preset_choice ≡ true → Default masks j → ⊥
not-both m [] j h e d = cc d
not-both m (x ∷ masks) zero h e d = let both : (m.preset_choice && x.preset_choice) ≡ true = rw (e, d) refl in cc (sym h.0 ∙ both)
not-both m (x ∷ masks) (suc j) h e d = not-both m masks j h.1 e d

one-default : (masks : List MaskText) (i j : ℕ) → NoTwo (λ (a b : MaskText). a.preset_choice && b.preset_choice) masks → (i == j) ≡ false → Default masks i → Default masks j → ⊥
one-default [] i j h ne a b = cc a
one-default (m ∷ masks) zero zero h ne a b = cc ne
one-default (m ∷ masks) zero (suc j) h ne a b = not-both m masks j h.0 a b
one-default (m ∷ masks) (suc i) zero h ne a b = not-both m masks i h.0 b a
one-default (m ∷ masks) (suc i) (suc j) h ne a b = one-default masks i j h.1 (ne_eqb i j (λ e. cc (sym (eq-eqb (suc i) (suc j) (ap suc e)) ∙ ne))) a b

pub choice-of : (masks : List MaskText) (said : List SaidAttribute) (flags : List Bool) → NoTwo (λ (a b : MaskText). a.preset_choice && b.preset_choice) masks → fault_from masks [] said ≡ None
    → chosen masks (named_from said 0 masks) ≡ Some flags → Choice masks flags
unfolding AllFlags
choice-of [] said flags d e c =
    let is : [] ≡ flags = cc c in
    subst (Choice []) is record { F = Named said; pairs = λ i j ne a b. refl; all = tt; len = refl; again = refl }
choice-of (m ∷ masks) said flags d e c = go (has_true (named_from said 0 (m ∷ masks))) (has_true (choices (m ∷ masks))) refl refl c
  where
    go : (a b : Bool) → has_true (named_from said 0 (m ∷ masks)) ≡ a → has_true (choices (m ∷ masks)) ≡ b
        → (if a then Some (named_from said 0 (m ∷ masks)) else if b then Some (choices (m ∷ masks)) else None) ≡ Some flags → Choice (m ∷ masks) flags
    go true b p q r =
        let is : named_from said 0 (m ∷ masks) ≡ flags = cc r in
        subst (Choice (m ∷ masks)) is record {
          F = Named said;
          pairs = faultless-combine (m ∷ masks) [] said e (λ i j ne x y. cc x);
          all = named-all said 0 (m ∷ masks);
          len = named-length said 0 (m ∷ masks);
          again = rw p refl;
        }
    go false true p q r =
        let is : choices (m ∷ masks) ≡ flags = cc r in
        subst (Choice (m ∷ masks)) is record {
          F = Default (m ∷ masks);
          pairs = λ i j ne x y. absurd (one-default (m ∷ masks) i j d ne x y);
          all = default-all (m ∷ masks) [] (m ∷ masks) refl;
          len = length-map (m ∷ masks) (λ (x : MaskText). x.preset_choice);
          again = rw q refl;
        }
    go false false p q r = cc r
