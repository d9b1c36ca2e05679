-- What an unsigned type reads of a text is the number of its digits.
use Rattle.tool_words.proofs.Words.{◌≡◌, ◌^◌, ◌&&◌, ℕ, Bool, true, false, List, [], ◌∷◌, length, Option, Some, None, Result, Ok, Err, refl, lt-ltb}
use Rattle.tool_words.proofs.Words.{ltb-true, nat_lt, digit_value, list_all, AllDigits, ParsesUnsigned, digits_value, without_leading_plus, both}
use Rattle.tool_words.proofs.Words.{ReadsOne, is_numeral, Text, unsigned_of}

digits_pass : (ds : List ℕ) → AllDigits 10 ds → list_all (λ d. nat_lt (digit_value d) 10) ds ≡ true
digits_pass [] h = refl
digits_pass (d ∷ ds) h = rw (lt-ltb (digit_value d) 10 h.0) (digits_pass ds h.1)

digits_from : (ds : List ℕ) → list_all (λ d. nat_lt (digit_value d) 10) ds ≡ true → AllDigits 10 ds
digits_from [] e = tt
digits_from (d ∷ ds) e =
    let parts = both _ _ e in
    (ltb-true _ _ parts.0, digits_from ds parts.1)

abbrev fits : ℕ → List ℕ → Bool
fits bits digits = is_numeral digits && nat_lt (digits_value 10 digits) (2 ^ bits)

-- what a type that parses decimal digits gives to `get_one`
pub reads_unsigned : (E : Type 0) (G : List ℕ → Result ℕ E → Type 0) (bits : ℕ) (text : Text) (r : Option ℕ)
    → ((u : List ℕ) (x : Result ℕ E) → G u x → ParsesUnsigned bits 10 u x) → ReadsOne G text r → r ≡ unsigned_of bits text
reads_unsigned E G bits text (Some n) parses read =
    let digits = without_leading_plus text in
    let h = parses text (Ok n) read in
    rw (lt-ltb 0 (length digits) h.0.0.0, digits_pass digits h.0.0.1, lt-ltb (digits_value 10 digits) (2 ^ bits) h.0.1, h.1) refl
reads_unsigned E G bits text None parses read = go (fits bits (without_leading_plus text)) refl
  where
    go : (b : Bool) → fits bits (without_leading_plus text) ≡ b → None ≡ unsigned_of bits text
    go false t = rw t refl
    go true t =
        let outer = both _ _ t in
        let inner = both _ _ outer.0 in
        absurd (parses text (Err read.0) read.1 ((ltb-true _ _ inner.0, digits_from (without_leading_plus text) inner.1), ltb-true _ _ outer.1))
