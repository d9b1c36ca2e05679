-- The parts of a text that was put together from words.
use Rattle.name_encoder.proofs.Words.{◌≡◌, ◌∙◌, ◌==◌, ◌∷◌, ◌++◌, ℕ, true, false, List, [], Option, Some, None, refl, sym, ap, arith, tests, nat_eq}
use Rattle.name_encoder.proofs.Words.{append_assoc, append-nil, option_map, AllByRecursion, list_all, slice_split, and_parts, Text, is_name}
use Rattle.name_encoder.proofs.Words.{is_name_byte, attribute_of, cut_at, split}

-- a byte of a word: no `:`
abbrev pub InWord : ℕ → Type 0
InWord b = ((b == 58) ≡ false) × (nat_eq 58 b ≡ false)

abbrev pub IsWord : Text → Type 0
IsWord [] = ⊥
IsWord (b ∷ w) = AllByRecursion InWord (b ∷ w)

-- words, each after a colon
unfoldable pub tail_text : List Text → Text
tail_text [] = []
tail_text (w ∷ ws) = 58 ∷ (w ++ tail_text ws)

pub tail-append : (xs ys : List Text) → tail_text (xs ++ ys) ≡ tail_text xs ++ tail_text ys
unfolding tail_text
tail-append [] ys = refl
tail-append (w ∷ ws) ys = ap (λ (t : Text). 58 ∷ t) (ap (λ (t : Text). w ++ t) (tail-append ws ys) ∙ sym (append_assoc w (tail_text ws) (tail_text ys)))

-- ---- a mark that begins with a colon is not in a word

cut-none : (m x rest : Text) → AllByRecursion InWord x → cut_at (58 ∷ m) rest ≡ None → cut_at (58 ∷ m) (x ++ rest) ≡ None
unfolding cut_at
cut-none m [] rest h e = e
cut-none m (b ∷ x) rest h e = rw (h.0.1, cut-none m x rest h.1 e) refl

cut-here : (x rest : Text) → AllByRecursion InWord x → cut_at (58 ∷ 58 ∷ []) (x ++ (58 ∷ 58 ∷ rest)) ≡ Some (x, rest)
unfolding cut_at
cut-here [] rest h = refl
cut-here (b ∷ x) rest h = rw (h.0.1, cut-here x rest h.1) refl

word-bytes : (w : Text) → IsWord w → AllByRecursion InWord w
word-bytes [] h = absurd h
word-bytes (b ∷ w) h = h

abbrev Three : Text
Three = 58 ∷ 58 ∷ 58 ∷ []

abbrev ahead : ℕ → Option (Text × Text) → Option (Text × Text)
ahead b o = option_map (λ p. (b ∷ p.0, p.1)) o

colon-step : (b : ℕ) (y : Text) → nat_eq 58 b ≡ false → cut_at Three (58 ∷ b ∷ y) ≡ ahead 58 (cut_at Three (b ∷ y))
unfolding cut_at
colon-step b y n = rw n refl

colons-step : (b : ℕ) (y : Text) → nat_eq 58 b ≡ false → cut_at Three (58 ∷ 58 ∷ b ∷ y) ≡ ahead 58 (cut_at Three (58 ∷ b ∷ y))
unfolding cut_at
colons-step b y n = rw n refl

one-colon : (b : ℕ) (y : Text) → nat_eq 58 b ≡ false → cut_at Three (b ∷ y) ≡ None → cut_at Three (58 ∷ b ∷ y) ≡ None
one-colon b y n h = colon-step b y n ∙ ap (ahead 58) h

two-colons : (b : ℕ) (y : Text) → nat_eq 58 b ≡ false → cut_at Three (b ∷ y) ≡ None → cut_at Three (58 ∷ 58 ∷ b ∷ y) ≡ None
two-colons b y n h = colons-step b y n ∙ ap (ahead 58) (one-colon b y n h)

-- words after colons have no three colons
tail-none : (ws : List Text) → AllByRecursion IsWord ws → cut_at (58 ∷ 58 ∷ 58 ∷ []) (tail_text ws) ≡ None
unfolding cut_at tail_text
tail-none [] h = refl
tail-none ([] ∷ ws) h = absurd h.0
tail-none ((b ∷ w) ∷ ws) h = one-colon b (w ++ tail_text ws) h.0.0.1 (cut-none (58 ∷ 58 ∷ []) (b ∷ w) (tail_text ws) h.0 (tail-none ws h.1))

-- nor has a name with its prefix
name-none : (pmu event : Text) (ws : List Text) → AllByRecursion InWord pmu → IsWord event → AllByRecursion IsWord ws
    → cut_at (58 ∷ 58 ∷ 58 ∷ []) (pmu ++ (58 ∷ 58 ∷ (event ++ tail_text ws))) ≡ None
name-none pmu [] ws p e h = absurd e
name-none pmu (b ∷ event) ws p e h =
    cut-none (58 ∷ 58 ∷ []) pmu (58 ∷ 58 ∷ ((b ∷ event) ++ tail_text ws)) p
    (two-colons b (event ++ tail_text ws) e.0.1 (cut-none (58 ∷ 58 ∷ []) (b ∷ event) (tail_text ws) e (tail-none ws h)))

-- ---- the parts between colons

part-first : (x rest : Text) → AllByRecursion InWord x → slice_split (λ b. b == 58) (x ++ 58 ∷ rest) ≡ x ∷ slice_split (λ b. b == 58) rest
part-first [] rest h = refl
part-first (b ∷ x) rest h = rw (h.0.0, part-first x rest h.1) refl

part-last : (x : Text) → AllByRecursion InWord x → slice_split (λ b. b == 58) x ≡ x ∷ []
part-last [] h = refl
part-last (b ∷ x) h = rw (h.0.0, part-last x h.1) refl

parts-of : (x : Text) (ws : List Text) → AllByRecursion InWord x → AllByRecursion IsWord ws → slice_split (λ b. b == 58) (x ++ tail_text ws) ≡ x ∷ ws
unfolding tail_text
parts-of x [] h k = rw (append-nil x) (part-last x h)
parts-of x (w ∷ ws) h k = part-first x (w ++ tail_text ws) h ∙ ap (λ (t : List Text). x ∷ t) (parts-of w ws (word-bytes w k.0) k.1)

pub split-name : (pmu event : Text) (ws : List Text) → AllByRecursion InWord pmu → IsWord event → AllByRecursion IsWord ws
    → split (pmu ++ (58 ∷ 58 ∷ (event ++ tail_text ws))) ≡ record { comp = None; pmu = Some pmu; event = event; attributes = ws }
unfolding split
split-name pmu event ws p e h = rw (name-none pmu event ws p e h, cut-here pmu (event ++ tail_text ws) p, parts-of event ws (word-bytes event e) h) refl

-- ---- an attribute

abbrev pub NoSigns : Text → Type 0
NoSigns w = AllByRecursion (λ b. nat_eq 61 b ≡ false) w

no-sign : (w : Text) → NoSigns w → cut_at (61 ∷ []) w ≡ None
unfolding cut_at
no-sign [] h = refl
no-sign (b ∷ w) h = rw (h.0, no-sign w h.1) refl

pub attribute-word : (w : Text) → NoSigns w → attribute_of w ≡ record { name = w; value = None }
unfolding attribute_of
attribute-word w h = rw (no-sign w h) refl

-- ---- a name is a word

name-byte : (b : ℕ) → is_name_byte b ≡ true → InWord b
name-byte b e = (grind (arith, tests, e), grind (arith, tests, e))

name-bytes : (t : Text) → list_all is_name_byte t ≡ true → AllByRecursion InWord t
name-bytes [] e = tt
name-bytes (b ∷ t) e = let p = and_parts (is_name_byte b) (list_all is_name_byte t) e in (name-byte b p.0, name-bytes t p.1)

pub name-word : (t : Text) → is_name t ≡ true → IsWord t
unfolding is_name
name-word [] e = cc e
name-word (b ∷ t) e = name-bytes (b ∷ t) (and_parts _ _ (and_parts _ _ e).1).1

signs-from : (t : Text) → list_all is_name_byte t ≡ true → NoSigns t
signs-from [] e = tt
signs-from (b ∷ t) e = let p = and_parts (is_name_byte b) (list_all is_name_byte t) e in (sign-byte b p.0, signs-from t p.1)
  where
    sign-byte : (c : ℕ) → is_name_byte c ≡ true → nat_eq 61 c ≡ false
    sign-byte c q = grind (arith, tests, q)

pub name-signs : (t : Text) → is_name t ≡ true → NoSigns t
unfolding is_name
name-signs t e = signs-from t (and_parts _ _ (and_parts _ _ e).1).1
