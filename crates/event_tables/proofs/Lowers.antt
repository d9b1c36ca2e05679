-- Names in lower case, byte by byte.
use Rattle.event_tables.proofs.Words.{◌≡◌, ◌∙◌, ◌+◌, ◌<◌, ◌≤◌, ◌∷◌, ◌++◌, ℕ, zero, suc, List, [], Bool, true, length, get_or, take, refl, ap, sym}
use Rattle.event_tables.proofs.Words.{arith, leb-true, and_parts, length-map, length-take-le, map-append, take_more, encode_ascii, to_ascii_lowercase}
use Rattle.event_tables.proofs.Words.{list_all, encode_utf8, str_to_ascii_lowercase, lowercase_ascii, Text, is_name, is_name_byte, name_byte-ascii}

all-pass : (p : ℕ → Bool) (xs : List ℕ) (i d : ℕ) → list_all p xs ≡ true → i < length xs → p (get_or xs i d) ≡ true
all-pass p [] i d e lt = absurd (omega arith)
all-pass p (x ∷ xs) zero d e lt = (and_parts _ _ e).0
all-pass p (x ∷ xs) (suc i) d e lt = all-pass p xs i d (and_parts _ _ e).1 (omega arith)

-- a byte of a name in lower case
pub lower-small : (t : Text) (i b : ℕ) → is_name t ≡ true → i < length t → b ≡ to_ascii_lowercase (get_or t i 0) → b < 128
unfolding is_name
lower-small t i b n lt e =
    let small = lowercase_ascii (get_or t i 0) (name_byte-ascii (get_or t i 0) (all-pass is_name_byte t i 0 (and_parts _ _ (and_parts _ _ n).1).1 lt)) in
    omega (arith, small, e)

-- there is room for it
pub lower-fits : (t text : Text) (i b : ℕ) → is_name t ≡ true → i < length t → b < 128 → text ≡ str_to_ascii_lowercase (take i t) → length text + length (encode_utf8 b) ≤ 64
unfolding is_name
lower-fits t text i b n lt small is =
    let few = leb-true (length t) 64 (and_parts _ _ (and_parts _ _ n).1).0 in
    let one = ap length (encode_ascii b small) in
    let within : i ≤ length t = omega arith in
    let taken : length (take i t) ≡ i = length-take-le i t within in
    let long : length text ≡ length (take i t) = ap length is ∙ length-map (take i t) to_ascii_lowercase in
    omega (arith, few, one, taken, long)

pub lower-more : (t text more : Text) (i b : ℕ) → i < length t → b ≡ to_ascii_lowercase (get_or t i 0) → text ≡ str_to_ascii_lowercase (take i t) → more ≡ text ++ b ∷ []
    → more ≡ str_to_ascii_lowercase (take (i + 1) t)
lower-more t text more i b lt e is m =
    m ∙ rw (is, e) refl ∙ sym (ap str_to_ascii_lowercase (take_more t i 0 lt) ∙ map-append to_ascii_lowercase (take i t) (get_or t i 0 ∷ []))
