-- Where a text stands in another one.
use Rattle.tool_output.proofs.Words.{◌≡◌, ◌∷◌, ◌++◌, ℕ, Bool, true, false, [], length, drop, nat_eq, refl, ap, Decides-eqb, starts_is, Decides}
use Rattle.tool_output.proofs.Words.{starts_with, ◌||◌, HasSubslice, or_right, or_left, Text, stands_in}

-- it stands at the beginning
begins : (part text : Text) → starts_with nat_eq text part ≡ true → HasSubslice text part
begins part text h = ([], drop (length part) text, (starts_is Decides-eqb text part (starts_with nat_eq text part) refl).0 h)

begun_by : (part text rest : Text) → text ≡ part ++ rest → starts_with nat_eq text part ≡ true
begun_by part text rest e = (starts_is Decides-eqb text part (starts_with nat_eq text part) refl).1 rest e

-- it stands after the first byte
later : (part rest : Text) (b : ℕ) → HasSubslice rest part → HasSubslice (b ∷ rest) part
later part rest b h = (b ∷ h.0, h.1, ap (λ (t : Text). b ∷ t) h.2)

pub stands : (part text : Text) → stands_in part text ≡ true → HasSubslice text part
unfolding stands_in
stands [] [] h = ([], [], refl)
stands (p ∷ part) [] h = cc h
stands part (b ∷ rest) h = go (starts_with nat_eq (b ∷ rest) part) refl h (stands part rest)
  where
    go : (r : Bool) → starts_with nat_eq (b ∷ rest) part ≡ r → (r || stands_in part rest) ≡ true → (stands_in part rest ≡ true → HasSubslice rest part)
        → HasSubslice (b ∷ rest) part
    go true e k more = begins part (b ∷ rest) e
    go false e k more = later part rest b (more k)

found : (part text before after : Text) → text ≡ before ++ (part ++ after) → stands_in part text ≡ true
unfolding stands_in
found [] [] before after e = refl
found (p ∷ part) [] [] after e = cc e
found (p ∷ part) [] (x ∷ before) after e = cc e
found part (b ∷ rest) [] after e = or_left (starts_with nat_eq (b ∷ rest) part) (stands_in part rest) (begun_by part (b ∷ rest) after e)
found part (b ∷ rest) (x ∷ before) after e = or_right (starts_with nat_eq (b ∷ rest) part) (stands_in part rest) (found part rest before after (cc e))

pub decides : (part text : Text) → Decides (stands_in part text) (HasSubslice text part)
decides part text = (stands part text, λ h. found part text h.0 h.1 h.2)
