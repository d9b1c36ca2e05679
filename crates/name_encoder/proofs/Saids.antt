-- What the attributes of a canonical name say.
use Rattle.name_encoder.proofs.Words.{◌≡◌, ◌∙◌, ◌+◌, ◌*◌, ◌/◌, ◌%◌, ◌∷◌, ◌++◌, ℕ, Bool, true, false, List, [], Option, Some, None, length, refl, sym}
use Rattle.name_encoder.proofs.Words.{ap, ap₂, subst, arith, nat_lt, decimal, codes, append_assoc, append-nil, if◌then◌else◌, AllByRecursion}
use Rattle.name_encoder.proofs.Words.{position_from, str_eq_ignore_ascii_case, str_to_ascii_lowercase, length-append, map-append, IsMask, NoTwo}
use Rattle.name_encoder.proofs.Words.{MaskText, Text, bits_of, Mods, attribute_of, cut_at, Modifier, SaidAttribute, cmask, edge, invert, kernel, mask}
use Rattle.name_encoder.proofs.Words.{meaning_of, modifier, modifier_of, said_of, saids_of, user, masks_text, mods_text, text_if}
use Rattle.name_encoder.proofs.Finds.{same-self}
use Rattle.name_encoder.proofs.Splits.{attribute-word, name-signs, tail-append, tail_text}

-- ---- the words of a canonical name

unfoldable pub chosen_words : List Bool → List MaskText → List Text
chosen_words [] masks = []
chosen_words (b ∷ flags) [] = []
chosen_words (true ∷ flags) (m ∷ masks) = m.name ∷ chosen_words flags masks
chosen_words (false ∷ flags) (m ∷ masks) = chosen_words flags masks

abbrev pub word_if : Bool → Text → List Text
word_if b w = if b then w ∷ [] else []

abbrev pub mod_words : Mods → List Text
mod_words m = word_if m.user (codes "u") ++ (word_if m.kernel (codes "k") ++ (word_if m.edge (codes "e") ++ (word_if m.invert (codes "i") ++ word_if (nat_lt 0 m.cmask) (99 ∷ 61 ∷ decimal m.cmask))))

masks-zero : (masks : List MaskText) → masks_text 0 masks ≡ []
unfolding masks_text
masks-zero [] = refl
masks-zero (m ∷ masks) = masks-zero masks

odd-rest : (k : ℕ) → (1 + 2 * k) % 2 ≡ 1
odd-rest k = omega arith

odd-half : (k : ℕ) → (1 + 2 * k) / 2 ≡ k
odd-half k = omega arith

even-rest : (k : ℕ) → (0 + 2 * k) % 2 ≡ 0
even-rest k = omega arith

even-half : (k : ℕ) → (0 + 2 * k) / 2 ≡ k
even-half k = omega arith

pub masks-words : (flags : List Bool) (masks : List MaskText) → masks_text (bits_of flags) masks ≡ tail_text (chosen_words flags masks)
unfolding masks_text bits_of chosen_words tail_text
masks-words [] masks = masks-zero masks
masks-words (b ∷ flags) [] = refl
masks-words (true ∷ flags) (m ∷ masks) = rw (odd-rest (bits_of flags), odd-half (bits_of flags)) (ap (λ (t : Text). 58 ∷ (m.name ++ t)) (masks-words flags masks))
masks-words (false ∷ flags) (m ∷ masks) = rw (even-rest (bits_of flags), even-half (bits_of flags)) (masks-words flags masks)

text-word : (b : Bool) (w : Text) → text_if b (58 ∷ w) ≡ tail_text (word_if b w)
unfolding tail_text
text-word true w = ap (λ (t : Text). 58 ∷ t) (sym (append-nil w))
text-word false w = refl

pub mods-words : (m : Mods) → mods_text m ≡ tail_text (mod_words m)
unfolding mods_text
mods-words m =
    let a = word_if m.user (codes "u") in
    let b = word_if m.kernel (codes "k") in
    let c = word_if m.edge (codes "e") in
    let d = word_if m.invert (codes "i") in
    let e = word_if (nat_lt 0 m.cmask) (99 ∷ 61 ∷ decimal m.cmask) in
    rw (tail-append a (b ++ (c ++ (d ++ e))), tail-append b (c ++ (d ++ e)), tail-append c (d ++ e), tail-append d e)
    (rw (text-word m.user (codes "u"), text-word m.kernel (codes "k"), text-word m.edge (codes "e"), text-word m.invert (codes "i"), text-word (nat_lt 0 m.cmask) (99 ∷ 61 ∷ decimal m.cmask)) refl)

-- ---- what the words say

unfoldable pub mask_saids : ℕ → List Bool → List SaidAttribute
mask_saids k [] = []
mask_saids k (true ∷ flags) = record { meaning = Some (mask k); value = None } ∷ mask_saids (k + 1) flags
mask_saids k (false ∷ flags) = mask_saids (k + 1) flags

abbrev pub mod_said : Modifier → Option Text → SaidAttribute
mod_said m v = record { meaning = Some (modifier m); value = v }

abbrev pub said_if : Bool → Modifier → Option Text → List SaidAttribute
said_if b m v = if b then mod_said m v ∷ [] else []

abbrev pub mod_saids : Mods → List SaidAttribute
mod_saids m = said_if m.user user None ++ (said_if m.kernel kernel None ++ (said_if m.edge edge None ++ (said_if m.invert invert None ++ said_if (nat_lt 0 m.cmask) cmask (Some (decimal m.cmask)))))

position-at : {X : Type 0} (p : X → Bool) (i n : ℕ) (above : List X) (m : X) (rest : List X) → n ≡ i + length above → AllByRecursion (λ x. p x ≡ false) above → p m ≡ true
    → position_from p i (above ++ m ∷ rest) ≡ Some n
position-at p i n [] m rest e h t = rw t (ap (λ (k : ℕ). Some k) (omega (arith, e)))
position-at p i n (x ∷ above) m rest e h t = rw h.0 (position-at p (i + 1) n above m rest (omega (arith, e)) h.1 t)

position-none : {X : Type 0} (p : X → Bool) (i : ℕ) (xs : List X) → AllByRecursion (λ x. p x ≡ false) xs → position_from p i xs ≡ None
position-none p i [] h = refl
position-none p i (x ∷ xs) h = rw h.0 (position-none p (i + 1) xs h.1)

all-middle : {X : Type 0} (P : X → Type 0) (above : List X) (m : X) (rest : List X) → AllByRecursion P (above ++ m ∷ rest) → P m
all-middle P [] m rest h = h.0
all-middle P (x ∷ above) m rest h = all-middle P above m rest h.1

repeats-above : {X : Type 0} (same : X → X → Bool) (above : List X) (m : X) (rest : List X) → NoTwo same (above ++ m ∷ rest) → AllByRecursion (λ x. same x m ≡ false) above
repeats-above same [] m rest h = tt
repeats-above same (x ∷ above) m rest h = (all-middle (λ y. same x y ≡ false) above m rest h.0, repeats-above same above m rest h.1)

mask-said : (all above rest : List MaskText) (m : MaskText) → all ≡ above ++ m ∷ rest → NoTwo (λ (a b : MaskText). str_eq_ignore_ascii_case a.name b.name) all → IsMask m
    → said_of all (attribute_of m.name) ≡ record { meaning = Some (mask (length above)); value = None }
unfolding meaning_of
mask-said all above rest m is d h =
    let apart = repeats-above (λ (a b : MaskText). str_eq_ignore_ascii_case a.name b.name) above m rest (subst (NoTwo (λ (a b : MaskText). str_eq_ignore_ascii_case a.name b.name)) is d) in
    let at = position-at (λ (x : MaskText). str_eq_ignore_ascii_case x.name m.name) 0 (length above) above m rest (omega arith) apart (same-self m.name) in
    rw (attribute-word m.name (name-signs m.name h.named), is, at) refl

pub words-said : (all above rest : List MaskText) (flags : List Bool) → all ≡ above ++ rest → NoTwo (λ (a b : MaskText). str_eq_ignore_ascii_case a.name b.name) all
    → AllByRecursion IsMask rest → length flags ≡ length rest → saids_of all (chosen_words flags rest) ≡ mask_saids (length above) flags
unfolding chosen_words mask_saids
words-said all above [] [] is d h n = refl
words-said all above [] (b ∷ flags) is d h n = absurd (omega arith)
words-said all above (m ∷ rest) [] is d h n = absurd (omega arith)
words-said all above (m ∷ rest) (true ∷ flags) is d h n =
    let more = words-said all (above ++ m ∷ []) rest flags (is ∙ sym (append_assoc above (m ∷ []) rest)) d h.1 (omega arith) in
    let len : length (above ++ m ∷ []) ≡ length above + 1 = length-append above (m ∷ []) ∙ omega arith in
    ap₂ (λ (x : SaidAttribute) (xs : List SaidAttribute). x ∷ xs) (mask-said all above rest m is d h.0) (subst (λ (k : ℕ). saids_of all (chosen_words flags rest) ≡ mask_saids k flags) len more)
words-said all above (m ∷ rest) (false ∷ flags) is d h n =
    let more = words-said all (above ++ m ∷ []) rest flags (is ∙ sym (append_assoc above (m ∷ []) rest)) d h.1 (omega arith) in
    let len : length (above ++ m ∷ []) ≡ length above + 1 = length-append above (m ∷ []) ∙ omega arith in
    subst (λ (k : ℕ). saids_of all (chosen_words flags rest) ≡ mask_saids k flags) len more

-- ---- modifiers

abbrev IsOwn : List MaskText → Text → Type 0
IsOwn masks w = AllByRecursion (λ m. str_eq_ignore_ascii_case m.name w ≡ false) masks

pub record Owns (masks : List MaskText) : Type 0 where
  u : IsOwn masks (codes "u")
  k : IsOwn masks (codes "k")
  e : IsOwn masks (codes "e")
  i : IsOwn masks (codes "i")
  c : IsOwn masks (codes "c")

pub owns : (masks : List MaskText) → AllByRecursion IsMask masks → Owns masks
owns [] h = record { u = tt; k = tt; e = tt; i = tt; c = tt }
owns (m ∷ masks) h =
    let more = owns masks h.1 in
    let n = h.0.no_modifier in
    record { u = (n.0, more.u); k = (n.1.0, more.k); e = (n.1.1.0, more.e); i = (n.1.1.1.0, more.i); c = (n.1.1.1.1.0, more.c) }

own-meaning : (masks : List MaskText) (w : Text) (m : Modifier) → IsOwn masks w → modifier_of (str_to_ascii_lowercase w) ≡ Some m → meaning_of masks w ≡ Some (modifier m)
unfolding meaning_of
own-meaning masks w m h e = rw (position-none (λ (x : MaskText). str_eq_ignore_ascii_case x.name w) 0 masks h, e) refl

said-word : (masks : List MaskText) (b : Bool) (w : Text) (m : Modifier) (v : Option Text) → said_of masks (attribute_of w) ≡ mod_said m v → saids_of masks (word_if b w) ≡ said_if b m v
said-word masks true w m v e = ap (λ (s : SaidAttribute). s ∷ []) e
said-word masks false w m v e = refl

pub mods-said : (masks : List MaskText) (m : Mods) → AllByRecursion IsMask masks → saids_of masks (mod_words m) ≡ mod_saids m
unfolding modifier_of attribute_of cut_at
mods-said masks m h =
    let o = owns masks h in
    let f = λ (w : Text). said_of masks (attribute_of w) in
    let a = word_if m.user (codes "u") in
    let b = word_if m.kernel (codes "k") in
    let c = word_if m.edge (codes "e") in
    let d = word_if m.invert (codes "i") in
    let e = word_if (nat_lt 0 m.cmask) (99 ∷ 61 ∷ decimal m.cmask) in
    let pu : said_of masks (attribute_of (codes "u")) ≡ mod_said user None = rw (own-meaning masks (codes "u") user o.u refl) refl in
    let pk : said_of masks (attribute_of (codes "k")) ≡ mod_said kernel None = rw (own-meaning masks (codes "k") kernel o.k refl) refl in
    let pe : said_of masks (attribute_of (codes "e")) ≡ mod_said edge None = rw (own-meaning masks (codes "e") edge o.e refl) refl in
    let pi : said_of masks (attribute_of (codes "i")) ≡ mod_said invert None = rw (own-meaning masks (codes "i") invert o.i refl) refl in
    let pc : said_of masks (attribute_of (99 ∷ 61 ∷ decimal m.cmask)) ≡ mod_said cmask (Some (decimal m.cmask)) = rw (own-meaning masks (codes "c") cmask o.c refl) refl in
    rw (map-append f a (b ++ (c ++ (d ++ e))), map-append f b (c ++ (d ++ e)), map-append f c (d ++ e), map-append f d e)
    (rw (
      said-word masks m.user (codes "u") user None pu,
      said-word masks m.kernel (codes "k") kernel None pk,
      said-word masks m.edge (codes "e") edge None pe,
      said-word masks m.invert (codes "i") invert None pi,
      said-word masks (nat_lt 0 m.cmask) (99 ∷ 61 ∷ decimal m.cmask) cmask (Some (decimal m.cmask)) pc,
    ) refl)
