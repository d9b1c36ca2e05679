-- The first part of a text in infix order, and what is after it.
use Rattle.postfix_rules.proofs.Words.{◌≡◌, ◌∙◌, ◌<◌, ◌≤◌, ◌+◌, ◌^◌, ◌∷◌, ℕ, suc, Bool, true, false, List, [], Some, None, cond, length, take, drop}
use Rattle.postfix_rules.proofs.Words.{refl, sym, ap, subst, arith, list_all, prefix_len, take_while, and_from, and_left, and_right, cond_both}
use Rattle.postfix_rules.proofs.Words.{eq-eqb, eqb-true, ne_eqb, take_while-cons, drop_all, drop_more, is_digit, is_empty, is_numeral, Text, is_blank}
use Rattle.postfix_rules.proofs.Words.{FormulaCause, Part, operand_cause, token_cause, infix_cause, place_of_operand, InfixPart, begins_digits}
use Rattle.postfix_rules.proofs.Words.{digits_of, in_infix, infix_from, sign_part, constant_part, native_part, operator_of}
use Rattle.std.specs.Prelude.{◌&&◌, ◌||◌, ◌==◌, not, nat_lt, slice_index, if◌then◌else◌}
use Rattle.postfix_rules.specs.declared.fault.FormulaCause.TheVariants as cause
use Rattle.postfix_rules.specs.declared.token.Token.TheVariants as token

-- a part that postfix order refuses wherever it stands is refused so in infix order
pub refused-part : (part : Part) (why : FormulaCause) → ((natives height : ℕ) → natives < 2 ^ 32 → token_cause natives height part ≡ Some why)
    → (natives : ℕ) (must : Bool) (depth : ℕ) → natives < 2 ^ 32 → infix_cause natives must depth (in_infix part) ≡ Some why
unfolding token_cause infix_cause
refused-part None why h n m d lt = h n 2 lt
refused-part (Some (token.Constant c)) why h n m d lt = go (nat_lt c (2 ^ 63)) (h n 2 lt)
  where
    go : (b : Bool) → (if b then operand_cause 2 else Some cause.ConstantTooLarge) ≡ Some why → (if b then place_of_operand m else Some cause.ConstantTooLarge) ≡ Some why
    go true e = cc e
    go false e = e
refused-part (Some (token.Native i)) why h n m d lt = go (nat_lt i n) (h n 2 lt)
  where
    go : (b : Bool) → (if b then operand_cause 2 else Some cause.NativeRange) ≡ Some why → (if b then place_of_operand m else Some cause.NativeRange) ≡ Some why
    go true e = cc e
    go false e = e
refused-part (Some (token.Operator o)) why h n m d lt = let e : None ≡ Some why = h n 2 lt in cc e

-- ---- signs

one-sign : (text : Text) → length text ≡ 1 → text ≡ slice_index text 0 ∷ []
one-sign (b ∷ []) e = refl
one-sign text e = absurd (omega arith)

pub sign-none : (text : Text) → length text ≡ 1 → (slice_index text 0 ≡ 40 → ⊥) → (slice_index text 0 ≡ 41 → ⊥) → operator_of text ≡ None → sign_part (slice_index text 0) ≡ None
sign-none text e n m o =
    let is : operator_of (slice_index text 0 ∷ []) ≡ None = ap operator_of (sym (one-sign text e)) ∙ o in
    rw (ne_eqb _ 40 n, ne_eqb _ 41 m, is) refl

pub no-token : (part : InfixPart) → part ≡ None → (natives : ℕ) (must : Bool) (depth : ℕ) → natives < 2 ^ 32 → infix_cause natives must depth part ≡ Some cause.UnknownToken
unfolding infix_cause
no-token part e n m d lt = rw e refl

no-parts : (inside : Bool) → infix_from inside [] ≡ []
unfolding infix_from
no-parts inside = refl

-- ---- one byte more

abbrev is_native : ℕ → Text → Bool
is_native b rest = (b == 78) && begins_digits rest

-- the parts by what the first byte is: a digit, the letter of a native, or a blank
abbrev parts_by : Bool → Bool → Bool → Bool → ℕ → Text → List InfixPart
parts_by inside digit native blank b rest =
    if digit then (if inside then infix_from true rest else in_infix (constant_part (digits_of (b ∷ rest))) ∷ infix_from true rest)
    else if native then in_infix (native_part (digits_of rest)) ∷ infix_from true rest
    else if blank then infix_from false rest
    else sign_part b ∷ infix_from false rest

parts-cons : (inside : Bool) (b : ℕ) (rest : Text) → infix_from inside (b ∷ rest) ≡ parts_by inside (is_digit b) (is_native b rest) (is_blank b) b rest
unfolding infix_from
parts-cons inside b rest = refl

parts-are : (inside : Bool) (b : ℕ) (rest : Text) (d n k : Bool) → is_digit b ≡ d → is_native b rest ≡ n → is_blank b ≡ k → infix_from inside (b ∷ rest) ≡ parts_by inside d n k b rest
parts-are inside b rest d n k p q r =
    parts-cons inside b rest
    ∙ ap (λ (x : Bool). parts_by inside x (is_native b rest) (is_blank b) b rest) p
    ∙ ap (λ (x : Bool). parts_by inside d x (is_blank b) b rest) q
    ∙ ap (λ (x : Bool). parts_by inside d n x b rest) r

digit-inside : (b : ℕ) (rest : Text) → is_digit b ≡ true → infix_from true (b ∷ rest) ≡ infix_from true rest
digit-inside b rest d = parts-are true b rest true (is_native b rest) (is_blank b) d refl refl

other-inside : (b : ℕ) (rest : Text) → is_digit b ≡ false → infix_from false (b ∷ rest) ≡ infix_from true (b ∷ rest)
other-inside b rest d = parts-are false b rest false (is_native b rest) (is_blank b) d refl refl ∙ sym (parts-are true b rest false (is_native b rest) (is_blank b) d refl refl)

-- ---- digits

drop-first : (n : ℕ) (b : ℕ) (rest : Text) → drop (1 + n) (b ∷ rest) ≡ drop n rest
drop-first n b rest = let is : 1 + n ≡ suc n = omega arith in ap (λ (m : ℕ). drop m (b ∷ rest)) is

-- further digits belong to the part that has begun
pub inside-digits : (text : Text) → infix_from false (drop (prefix_len is_digit text) text) ≡ infix_from true text
inside-digits [] = none
  where
    none : infix_from false [] ≡ infix_from true []
    none = no-parts false ∙ sym (no-parts true)
inside-digits (b ∷ rest) = go (is_digit b) refl (inside-digits rest)
  where
    go : (d : Bool) → is_digit b ≡ d → infix_from false (drop (prefix_len is_digit rest) rest) ≡ infix_from true rest
        → infix_from false (drop (cond d (1 + prefix_len is_digit rest) 0) (b ∷ rest)) ≡ infix_from true (b ∷ rest)
    go true e h = ap (infix_from false) (drop-first (prefix_len is_digit rest) b rest) ∙ h ∙ sym (digit-inside b rest e)
    go false e h = other-inside b rest e

all-digits : (text : Text) → list_all is_digit (take_while is_digit text) ≡ true
all-digits [] = refl
all-digits (b ∷ rest) =
    ap (list_all is_digit) (take_while-cons is_digit b rest)
    ∙ cond_both (is_digit b) (b ∷ take_while is_digit rest) [] (λ (t : Text). list_all is_digit t ≡ true)
    (λ e. and_from (is_digit b) (list_all is_digit (take_while is_digit rest)) e (all-digits rest)) (λ e. refl)

filled : (text : Text) → 0 < length text → is_empty text ≡ false
filled [] lt = absurd (omega arith)
filled (b ∷ text) lt = refl

pub digits-numeral : (text : Text) → 0 < length (take_while is_digit text) → is_numeral (take_while is_digit text) ≡ true
unfolding is_numeral
digits-numeral text lt = and_from (list_all is_digit (take_while is_digit text)) (not (is_empty (take_while is_digit text))) (all-digits text) (ap not (filled (take_while is_digit text) lt))

pub front-first : (text : Text) → 0 < length text → slice_index (take 1 text) 0 ≡ slice_index text 0
front-first [] lt = absurd (omega arith)
front-first (b ∷ rest) lt = refl

pub some-digits : (text : Text) → 0 < length text → is_digit (slice_index text 0) ≡ true → 0 < length (take_while is_digit text)
some-digits [] lt d = absurd (omega arith)
some-digits (b ∷ rest) lt d =
    let is : take_while is_digit (b ∷ rest) ≡ b ∷ take_while is_digit rest = take_while-cons is_digit b rest ∙ ap (λ (x : Bool). cond x (b ∷ take_while is_digit rest) []) d in
    omega (arith, ap length is)

begins : (text : Text) → 0 < length (take_while is_digit text) → begins_digits text ≡ true
begins [] lt = absurd (omega arith)
begins (b ∷ rest) lt = go (is_digit b) refl (subst (λ (t : Text). 0 < length t) (take_while-cons is_digit b rest) lt)
  where
    go : (d : Bool) → is_digit b ≡ d → 0 < length (cond d (b ∷ take_while is_digit rest) []) → is_digit b ≡ true
    go true e h = e
    go false e h = absurd (omega arith)

begins-none : (text : Text) → length (take_while is_digit text) ≡ 0 → begins_digits text ≡ false
begins-none [] e = refl
begins-none (b ∷ rest) e = go (is_digit b) refl (ap length (sym (take_while-cons is_digit b rest)) ∙ e)
  where
    go : (d : Bool) → is_digit b ≡ d → length (cond d (b ∷ take_while is_digit rest) []) ≡ 0 → is_digit b ≡ false
    go true p h = absurd (omega arith)
    go false p h = p

-- ---- the first part

pub constant-first : (text : Text) → 0 < length text → is_digit (slice_index text 0) ≡ true → infix_from false text ≡ in_infix (constant_part (take_while is_digit text)) ∷ infix_from true text
constant-first [] lt d = absurd (omega arith)
constant-first (b ∷ rest) lt d =
    parts-are false b rest true (is_native b rest) (is_blank b) d refl refl
    ∙ ap (λ (ps : List InfixPart). in_infix (constant_part (take_while is_digit (b ∷ rest))) ∷ ps) (sym (digit-inside b rest d))

pub native-first : (text : Text) → 0 < length text → slice_index text 0 ≡ 78 → 0 < length (take_while is_digit (drop 1 text))
    → infix_from false text ≡ in_infix (native_part (take_while is_digit (drop 1 text))) ∷ infix_from true (drop 1 text)
native-first [] lt n d = absurd (omega arith)
native-first (b ∷ rest) lt n d =
    parts-are false b rest false true (is_blank b) (ap is_digit n) (and_from (b == 78) (begins_digits rest) (eq-eqb b 78 n) (begins rest d)) refl

pub sign-first : (text : Text) → 0 < length text → is_digit (slice_index text 0) ≡ false → is_blank (slice_index text 0) ≡ false → (slice_index text 0 ≡ 78 → ⊥)
    → infix_from false text ≡ sign_part (slice_index text 0) ∷ infix_from false (drop 1 text)
sign-first [] lt d k n = absurd (omega arith)
sign-first (b ∷ rest) lt d k n = parts-are false b rest false false false d (and_left (b == 78) (begins_digits rest) (ne_eqb b 78 n)) k

pub letter-first : (text : Text) → 0 < length text → is_digit (slice_index text 0) ≡ false → is_blank (slice_index text 0) ≡ false → length (take_while is_digit (drop 1 text)) ≡ 0
    → infix_from false text ≡ sign_part (slice_index text 0) ∷ infix_from false (drop 1 text)
letter-first [] lt d k n = absurd (omega arith)
letter-first (b ∷ rest) lt d k n = parts-are false b rest false false false d (and_right (b == 78) (begins_digits rest) (begins-none rest n)) k

-- ---- blanks

blank-is : (b : ℕ) → is_blank b ≡ true → (is_digit b ≡ false) × ((b == 78) ≡ false)
blank-is b e = go (b == 32) (b == 9) refl refl e
  where
    go : (s t : Bool) → (b == 32) ≡ s → (b == 9) ≡ t → (s || t) ≡ true → (is_digit b ≡ false) × ((b == 78) ≡ false)
    go true t p q h = let is : b ≡ 32 = eqb-true b 32 p in (ap is_digit is, ap (λ (x : ℕ). x == 78) is)
    go false true p q h = let is : b ≡ 9 = eqb-true b 9 q in (ap is_digit is, ap (λ (x : ℕ). x == 78) is)
    go false false p q h = cc h

blank-at : (b : ℕ) (rest : Text) → is_blank b ≡ true → infix_from false (b ∷ rest) ≡ infix_from false rest
blank-at b rest e = let is = blank-is b e in parts-are false b rest false false true is.0 (and_left (b == 78) (begins_digits rest) is.1) e

pub blank-more : (text : Text) (i : ℕ) → i < length text → is_blank (slice_index text i) ≡ true → infix_from false (drop i text) ≡ infix_from false (drop (i + 1) text)
blank-more text i lt k = ap (infix_from false) (drop_more text i 0 lt) ∙ blank-at (slice_index text i) (drop (i + 1) text) k

pub nothing-left : (text : Text) (i : ℕ) → length text ≤ i → infix_from false (drop i text) ≡ []
unfolding infix_from
nothing-left text i h = rw (drop_all i text h) refl
