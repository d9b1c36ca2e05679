-- The first piece of a text, and what is after its bar.
use Rattle.postfix_rules.proofs.Words.{◌≡◌, ◌∙◌, ◌<◌, ◌+◌, ◌-◌, ◌∷◌, ℕ, false, List, [], None, Some, length, map, take, drop, refl, sym, ap, arith}
use Rattle.postfix_rules.proofs.Words.{length-slice_split, count_by, slice_split, is_empty, Part, is_bar, part_of, parts_of, pieces_of}
use Rattle.postfix_rules.proofs.Words.{without_blank_last, Text, trimmed, without_front, rest-whole, split-cut, split-none}
use Rattle.std.specs.Prelude.{◌==◌, position}

abbrev part : Text → Part
part p = part_of (trimmed p)

-- a piece before others stays
before : (p : Text) (text : Text) → without_blank_last (p ∷ slice_split is_bar text) ≡ p ∷ without_blank_last (slice_split is_bar text)
unfolding without_blank_last
before p text = go (slice_split is_bar text) (length-slice_split is_bar text)
  where
    go : (parts : List Text) → length parts ≡ count_by is_bar text + 1 → without_blank_last (p ∷ parts) ≡ p ∷ without_blank_last parts
    go [] n = absurd (omega (arith, n))
    go (q ∷ parts) n = refl

pub parts-cut : (text : Text) (n : ℕ) → position is_bar text ≡ Some n → parts_of text ≡ part_of (trimmed (take n text)) ∷ parts_of (drop (n + 1) text)
unfolding parts_of pieces_of
parts-cut text n h = ap (λ (ps : List Text). map part (without_blank_last ps)) (split-cut is_bar text 0 n h) ∙ ap (map part) (before (take n text) (drop (n + 1) text))

-- the same, the text after the bar as a slice to the end gives it
pub parts-cut_rest : (text : Text) (n : ℕ) → position is_bar text ≡ Some n
    → parts_of text ≡ part_of (trimmed (take n text)) ∷ parts_of (take (length text - (n + 1)) (drop (n + 1) text))
parts-cut_rest text n h = parts-cut text n h ∙ ap (λ (t : Text). part_of (trimmed (take n text)) ∷ parts_of t) (sym (rest-whole text (n + 1)))

pub parts-none : parts_of [] ≡ []
unfolding parts_of pieces_of without_blank_last trimmed without_front
parts-none = refl

pub parts-blank : (text : Text) → position is_bar text ≡ None → trimmed text ≡ [] → parts_of text ≡ []
unfolding parts_of pieces_of without_blank_last
parts-blank text h e = rw (split-none is_bar text h, e) refl

filled : (t : Text) → (t ≡ [] → ⊥) → is_empty t ≡ false
filled [] h = absurd (h refl)
filled (b ∷ t) h = refl

one-last : (text : Text) → position is_bar text ≡ None → (trimmed text ≡ [] → ⊥) → parts_of text ≡ part_of (trimmed text) ∷ []
unfolding parts_of pieces_of without_blank_last
one-last text h e = rw (split-none is_bar text h, filled (trimmed text) e) refl

pub parts-last : (text : Text) → position is_bar text ≡ None → (trimmed text ≡ [] → ⊥) → parts_of text ≡ part_of (trimmed text) ∷ parts_of []
parts-last text h e = one-last text h e ∙ ap (λ (ps : List Part). part_of (trimmed text) ∷ ps) (sym parts-none)

pub trimmed-none : trimmed [] ≡ []
unfolding trimmed without_front
trimmed-none = refl

pub not-empty : (t : Text) → (length t == 0) ≡ false → t ≡ [] → ⊥
not-empty [] e q = cc e
not-empty (b ∷ t) e q = cc q

pub some-length : (text : Text) → (trimmed text ≡ [] → ⊥) → 0 < length text
some-length [] h = absurd (h trimmed-none)
some-length (b ∷ text) h = omega arith
