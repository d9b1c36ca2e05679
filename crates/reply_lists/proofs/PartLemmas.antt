-- Parts of lists that grow.
use Rattle.std.proofs.Common.{◌≡◌, ℕ, ◌+◌, ◌<◌, ◌≤◌, List, [], ◌∷◌, ◌++◌, length, map, take, drop, get_or, sym, ◌∙◌, ap, ap₂, arith, Some, slice_get, append_assoc}
use Rattle.std.proofs.lemmas.List.{take_more, get_or-drop, length-drop, length-append, take-append-le, drop-append-le, map-append}
use Rattle.std.proofs.lemmas.Option.{get_or_from_slice_get, slice_get_within}
use Rattle.std.proofs.Math.Seq.{drop-append_seam, take-length}
use Rattle.reply_lists.specs.declared.kept.Span.{Span}
use Rattle.reply_lists.specs.Parts.{HoldsAt, IsPart, part}

-- one item more of a part
pub part-more : {X : Type 0} (xs : List X) (from i : ℕ) (x : X) → from + i < length xs → get_or xs (from + i) x ≡ x → take i (drop from xs) ++ x ∷ [] ≡ take (i + 1) (drop from xs)
part-more xs from i x inside is =
    ap (λ y. take i (drop from xs) ++ y ∷ []) (sym (get_or-drop from xs i x ∙ is))
    ∙ sym (take_more (drop from xs) i x (omega (arith, inside, length-drop from xs)))

pub part-more-got : {X : Type 0} (xs : List X) (from i : ℕ) (x : X) → from + i < length xs → slice_get xs (from + i) ≡ Some x → take i (drop from xs) ++ x ∷ [] ≡ take (i + 1) (drop from xs)
part-more-got xs from i x inside got = part-more xs from i x inside (get_or_from_slice_get xs (from + i) x x got)

-- one item more, each looked at
pub part-more-map : {X Y : Type 0} (f : X → Y) (xs : List X) (from i : ℕ) (x : X) → from + i < length xs → slice_get xs (from + i) ≡ Some x
    → map f (take i (drop from xs)) ++ f x ∷ [] ≡ map f (take (i + 1) (drop from xs))
part-more-map f xs from i x inside got = sym (map-append f (take i (drop from xs)) (x ∷ [])) ∙ ap (map f) (part-more-got xs from i x inside got)

-- a part stays where it is
pub part-stays : {X : Type 0} (s : Span) (xs ys : List X) → IsPart s xs → IsPart s (xs ++ ys)
part-stays s xs ys p = record { short = p.short; inside = omega (arith, p.inside, length-append xs ys) }

pub part-append : {X : Type 0} (s : Span) (xs ys : List X) → IsPart s xs → part s (xs ++ ys) ≡ part s xs
part-append s xs ys p =
    ap (take s.len) (drop-append-le s.from xs ys (omega (arith, p.inside)))
    ∙ take-append-le s.len (drop s.from xs) ys (omega (arith, p.inside, length-drop s.from xs))

-- what was appended is a part
pub holds-end : {X : Type 0} (s : Span) (old items all : List X) → s.from ≡ length old → s.len ≡ length items → length items ≤ 32 → all ≡ old ++ items → HoldsAt s all items
holds-end s old items all from len short is =
    record {
      lies = record { short = omega (arith, len, short); inside = omega (arith, from, len, ap length is, length-append old items) };
      has = ap₂ (λ a b. take a (drop b all)) len from ∙ (ap (λ v. take (length items) (drop (length old) v)) is ∙ (ap (take (length items)) (drop-append_seam old items) ∙ take-length items));
    }

-- one item more was appended
pub append_more : {X : Type 0} (old a b xs : List X) (i : ℕ) (x : X) → a ≡ old ++ take i xs → slice_get xs i ≡ Some x → b ≡ a ++ x ∷ [] → b ≡ old ++ take (i + 1) xs
append_more old a b xs i x is got more =
    more
    ∙ (ap (λ v. v ++ x ∷ []) is
    ∙ (append_assoc old (take i xs) (x ∷ [])
    ∙ ap (λ v. old ++ v) (ap (λ y. take i xs ++ y ∷ []) (sym (get_or_from_slice_get xs i x x got)) ∙ sym (take_more xs i x (slice_get_within xs i x got)))))

pub append_more_map : {X Y : Type 0} (f : X → Y) (old a b : List Y) (xs : List X) (i : ℕ) (x : X) → a ≡ old ++ map f (take i xs) → slice_get xs i ≡ Some x → b ≡ a ++ f x ∷ [] → b ≡ old ++ map f (take (i + 1) xs)
append_more_map f old a b xs i x is got more =
    more
    ∙ (ap (λ v. v ++ f x ∷ []) is
    ∙ (append_assoc old (map f (take i xs)) (f x ∷ [])
    ∙ ap (λ v. old ++ v)
    (sym (map-append f (take i xs) (x ∷ []))
    ∙ ap (map f) (ap (λ y. take i xs ++ y ∷ []) (sym (get_or_from_slice_get xs i x x got)) ∙ sym (take_more xs i x (slice_get_within xs i x got))))))
