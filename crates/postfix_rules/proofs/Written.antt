-- The written text of a formula.
use Rattle.std.proofs.Common.{◌≡◌, ◌∙◌, ◌+◌, ◌<◌, ◌≤◌, ◌^◌, ◌∷◌, ◌++◌, ℕ, true, false, List, [], length, map, refl, ap, ap₂, arith, tests, nat_eq, nat_le, decimal, Some, None, length-append}
use Rattle.postfix_rules.proofs.Words.{list_all-append, ⊤, AllByRecursion, list_all, slice_split, digits_value, and_from, le-leb, is_numeral, Token}
use Rattle.postfix_rules.proofs.Words.{Part, end_cause, fault_from, height_after, token_cause, formula_text, is_bar, is_formula_byte, part_of}
use Rattle.postfix_rules.proofs.Words.{parts_of, pieces_of, token_text, without_blank_last, Text, is_blank, trimmed, without_front, WrittenBytes}
use Rattle.postfix_rules.proofs.Words.{WrittenRead, Digits, all-map, decimal-digits, decimal-numeral, decimal-value, trimmed-plain}
use Rattle.postfix_rules.specs.declared.token.Operator.TheVariants as op
use Rattle.postfix_rules.specs.declared.token.Token.TheVariants as token
use Rattle.postfix_rules.proofs.Refusals.{reads-tokens}
use Rattle.postfix_rules.proofs.Spelled.{clear-first, constant-ok, native-ok}

-- ---- one token

-- a token that can be written
abbrev IsWritten : Token → Type 0
IsWritten (token.Constant n) = n < 2 ^ 64
IsWritten (token.Native i) = i < 2 ^ 64
IsWritten (token.Operator o) = ⊤

-- bytes of a token: no bar and no blank
abbrev Inner : ℕ → Type 0
Inner b = (is_bar b ≡ false) × (is_blank b ≡ false)

digits-inner : (t : Text) → Digits t → AllByRecursion Inner t
digits-inner t h = all-map (λ b. (48 ≤ b) × (b ≤ 57)) Inner t (λ b r. (grind (arith, tests, r), grind (arith, tests, r))) h

token-inner : (t : Token) → IsWritten t → AllByRecursion Inner (token_text t)
token-inner (token.Constant n) h = digits-inner (decimal n) (decimal-digits n h)
token-inner (token.Native i) h = ((refl, refl), digits-inner (decimal i) (decimal-digits i h))
token-inner (token.Operator op.Plus) h = ((refl, refl), tt)
token-inner t h = ((refl, refl), tt)

token-plain : (t : Token) → IsWritten t → trimmed (token_text t) ≡ token_text t
token-plain t h = trimmed-plain (token_text t) (all-map Inner (λ b. is_blank b ≡ false) (token_text t) (λ b r. r.1) (token-inner t h))

numeral-part : (t : Text) → Digits t → is_numeral t ≡ true → part_of t ≡ Some (token.Constant (digits_value 10 t))
unfolding part_of is_numeral
numeral-part [] d e = cc e
numeral-part (b ∷ t) d e =
    let p : nat_eq b 43 ≡ false = grind (arith, tests, d.0) in
    let m : nat_eq b 45 ≡ false = grind (arith, tests, d.0) in
    let s : nat_eq b 42 ≡ false = grind (arith, tests, d.0) in
    let o : nat_eq b 47 ≡ false = grind (arith, tests, d.0) in
    rw (p, m, s, o, e) refl

native-written : (t : Text) → is_numeral t ≡ true → part_of (78 ∷ t) ≡ Some (token.Native (digits_value 10 t))
unfolding part_of is_numeral
native-written t e = rw e refl

token-back : (t : Token) → IsWritten t → part_of (token_text t) ≡ Some t
unfolding part_of
token-back (token.Constant n) h =
    numeral-part (decimal n) (decimal-digits n h) (decimal-numeral n h) ∙ ap (λ (m : ℕ). Some (token.Constant m)) (decimal-value n h)
token-back (token.Native i) h = native-written (decimal i) (decimal-numeral i h) ∙ ap (λ (m : ℕ). Some (token.Native m)) (decimal-value i h)
token-back (token.Operator op.Plus) h = refl
token-back t h = refl

-- ---- all tokens

-- the first piece ends at the first bar
split-first : (x rest : Text) → AllByRecursion Inner x → slice_split is_bar (x ++ 124 ∷ rest) ≡ x ∷ slice_split is_bar rest
split-first [] rest h = refl
split-first (b ∷ x) rest h = rw (h.0.0, split-first x rest h.1) refl

pieces-split : (tokens : List Token) → AllByRecursion IsWritten tokens → slice_split is_bar (formula_text tokens) ≡ map token_text tokens ++ ([] ∷ [])
unfolding formula_text
pieces-split [] h = refl
pieces-split (t ∷ rest) h = split-first (token_text t) (formula_text rest) (token-inner t h.0) ∙ ap (λ (p : List Text). token_text t ∷ p) (pieces-split rest h.1)

drop-last : (pieces : List Text) → without_blank_last (pieces ++ ([] ∷ [])) ≡ pieces
unfolding without_blank_last trimmed without_front
drop-last (p ∷ q ∷ rest) = ap (λ (t : List Text). p ∷ t) (drop-last (q ∷ rest))
drop-last pieces = refl

each-back : (tokens : List Token) → AllByRecursion IsWritten tokens → map (λ p. part_of (trimmed p)) (map token_text tokens) ≡ map Some tokens
each-back [] h = refl
each-back (t ∷ rest) h = ap₂ (λ (x : Part) (xs : List Part). x ∷ xs) (ap part_of (token-plain t h.0) ∙ token-back t h.0) (each-back rest h.1)

-- the text of tokens that can be written has these tokens as its parts
written-back : (tokens : List Token) → AllByRecursion IsWritten tokens → parts_of (formula_text tokens) ≡ map Some tokens
unfolding parts_of pieces_of
written-back tokens h = rw (pieces-split tokens h, drop-last (map token_text tokens)) (each-back tokens h)

-- ---- the tokens of a formula

token-written : (natives height : ℕ) (t : Token) → natives < 2 ^ 32 → token_cause natives height (Some t) ≡ None → IsWritten t
token-written natives height (token.Constant n) lt e = let k = (constant-ok natives height n e).0 in omega (arith, k)
token-written natives height (token.Native i) lt e = let k = (native-ok natives height i e).0 in omega (arith, k, lt)
token-written natives height (token.Operator o) lt e = tt

tokens-written : (natives place height : ℕ) (tokens : List Token) → natives < 2 ^ 32 → fault_from natives place height (map Some tokens) ≡ None → AllByRecursion IsWritten tokens
tokens-written natives place height [] lt e = tt
tokens-written natives place height (t ∷ rest) lt e =
    let c = clear-first natives place height (Some t) (map Some rest) e in
    (token-written natives height t lt c.now, tokens-written natives (place + 1) (height_after height (Some t)) rest lt c.next)

pub written_read : WrittenRead
written_read f lt e = reads-tokens f.natives (formula_text f.tokens) f (written-back f.tokens (tokens-written f.natives 0 0 f.tokens lt e)) refl e

-- ---- its bytes

digit-byte : (b : ℕ) → (48 ≤ b) × (b ≤ 57) → is_formula_byte b ≡ true
digit-byte b r =
    let low : nat_le 48 b ≡ true = le-leb 48 b r.0 in
    let high : nat_le b 57 ≡ true = le-leb b 57 r.1 in
    rw (low, high) refl

digits-bytes : (t : Text) → Digits t → list_all is_formula_byte t ≡ true
digits-bytes [] h = refl
digits-bytes (b ∷ t) h = and_from (is_formula_byte b) (list_all is_formula_byte t) (digit-byte b h.0) (digits-bytes t h.1)

token-bytes : (t : Token) → IsWritten t → list_all is_formula_byte (token_text t) ≡ true
token-bytes (token.Constant n) h = digits-bytes (decimal n) (decimal-digits n h)
token-bytes (token.Native i) h = digits-bytes (decimal i) (decimal-digits i h)
token-bytes (token.Operator op.Plus) h = refl
token-bytes t h = refl

bytes-append : (a b : Text) → list_all is_formula_byte a ≡ true → list_all is_formula_byte b ≡ true → list_all is_formula_byte (a ++ b) ≡ true
bytes-append a b h k = list_all-append is_formula_byte a b ∙ and_from (list_all is_formula_byte a) (list_all is_formula_byte b) h k

tokens-bytes : (tokens : List Token) → AllByRecursion IsWritten tokens → list_all is_formula_byte (formula_text tokens) ≡ true
unfolding formula_text
tokens-bytes [] h = refl
tokens-bytes (t ∷ rest) h = bytes-append (token_text t) (124 ∷ formula_text rest) (token-bytes t h.0) (tokens-bytes rest h.1)

some-bytes : (natives : ℕ) (tokens : List Token) → fault_from natives 0 0 (map Some tokens) ≡ None → 0 < length (formula_text tokens)
unfolding formula_text fault_from end_cause
some-bytes natives [] e = cc e
some-bytes natives (t ∷ rest) e = omega (arith, length-append (token_text t) (124 ∷ formula_text rest))

pub written_bytes : WrittenBytes
written_bytes f lt e = (some-bytes f.natives f.tokens e, tokens-bytes f.tokens (tokens-written f.natives 0 0 f.tokens lt e))
