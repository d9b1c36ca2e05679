-- A text that is cut at a mark.
use Rattle.name_encoder.proofs.Words.{◌≡◌, ◌∙◌, ◌+◌, ◌-◌, ◌<◌, ◌≤◌, ◌∷◌, ◌++◌, ℕ, List, [], Option, Some, None, Bool, true, false, length, get_or}
use Rattle.name_encoder.proofs.Words.{drop, take, refl, sym, ap, nat_eq, option_map, append_assoc, append-nil, drop_more, drop_all, take_more, eq-eqb}
use Rattle.name_encoder.proofs.Words.{eqb-true, ne_eqb, onto_first, slice_split, starts_with, Text, rest-whole, cut_at}
use Rattle.std.specs.Prelude.{◌==◌, if◌then◌else◌}

-- the parts of a text after a front
abbrev pub with_front : Text → Option (Text × Text) → Option (Text × Text)
with_front front o = option_map (λ p. (front ++ p.0, p.1)) o

with_front-byte : (front : Text) (b : ℕ) (o : Option (Text × Text)) → with_front front (option_map (λ p. (b ∷ p.0, p.1)) o) ≡ with_front (front ++ b ∷ []) o
with_front-byte front b None = refl
with_front-byte front b (Some p) = ap (λ (t : Text). Some (t, p.1)) (sym (append_assoc front (b ∷ []) p.0))

pub with_front-none : (o : Option (Text × Text)) → with_front [] o ≡ o
with_front-none None = refl
with_front-none (Some p) = refl

pub cut-here : (mark text : Text) (i : ℕ) → i < length text → starts_with nat_eq (take (length text - i) (drop i text)) mark ≡ true
    → with_front (take i text) (cut_at mark (drop i text)) ≡ Some (take i text, drop (length mark) (drop i text))
unfolding cut_at
cut-here mark text i lt e =
    let d = drop_more text i 0 lt in
    let here : starts_with nat_eq (get_or text i 0 ∷ drop (i + 1) text) mark ≡ true = rw (rest-whole text i, d) at e in
    rw (d, here) (ap (λ (t : Text). Some (t, drop (length mark) (get_or text i 0 ∷ drop (i + 1) text))) (append-nil (take i text)))

pub cut-later : (mark text : Text) (i : ℕ) → i < length text → starts_with nat_eq (take (length text - i) (drop i text)) mark ≡ false
    → with_front (take i text) (cut_at mark (drop i text)) ≡ with_front (take (i + 1) text) (cut_at mark (drop (i + 1) text))
unfolding cut_at
cut-later mark text i lt e =
    let d = drop_more text i 0 lt in
    let here : starts_with nat_eq (get_or text i 0 ∷ drop (i + 1) text) mark ≡ false = rw (rest-whole text i, d) at e in
    let t = take_more text i 0 lt in
    rw (d, here, t) (with_front-byte (take i text) (get_or text i 0) (cut_at mark (drop (i + 1) text)))

pub cut-never : (mark text : Text) (i : ℕ) → length text ≤ i → with_front (take i text) (cut_at mark (drop i text)) ≡ None
unfolding cut_at
cut-never mark text i le = rw (drop_all i text le) refl

-- ---- the parts between colons

abbrev pub parts_after : Text → Option (Text × Text) → List Text
parts_after t None = t ∷ []
parts_after t (Some p) = p.0 ∷ slice_split (λ b. b == 58) p.1

swapped : (b : ℕ) → nat_eq 58 b ≡ (b == 58)
swapped b = go (b == 58) refl
  where
    go : (c : Bool) → (b == 58) ≡ c → nat_eq 58 b ≡ c
    go true e = eq-eqb 58 b (sym (eqb-true b 58 e))
    go false e = ne_eqb 58 b (λ q. cc (eq-eqb b 58 (sym q)))

onto : (b : ℕ) (t : Text) (o : Option (Text × Text)) → onto_first b (parts_after t o) ≡ parts_after (b ∷ t) (option_map (λ p. (b ∷ p.0, p.1)) o)
onto b t None = refl
onto b t (Some p) = refl

-- the first part, and those after it
pub parts-first : (t : Text) → slice_split (λ b. b == 58) t ≡ parts_after t (cut_at (58 ∷ []) t)
unfolding cut_at
parts-first [] = refl
parts-first (b ∷ t) = go (b == 58) refl (parts-first t)
  where
    go : (c : Bool) → (b == 58) ≡ c → slice_split (λ b. b == 58) t ≡ parts_after t (cut_at (58 ∷ []) t)
        → (if c then [] ∷ slice_split (λ b. b == 58) t else onto_first b (slice_split (λ b. b == 58) t)) ≡ parts_after (b ∷ t) (cut_at (58 ∷ []) (b ∷ t))
    go true e more = let h = swapped b ∙ e in rw h refl
    go false e more = let h = swapped b ∙ e in rw (h, more) (onto b t (cut_at (58 ∷ []) t))
