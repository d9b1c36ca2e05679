-- A number at the beginning of some bytes.
use Rattle.std.proofs.Common.{◌≡◌, ◌∙◌, ◌<◌, ◌≤◌, ◌+◌, ◌-◌, ◌*◌, ◌∷◌, ℕ, List, [], true, false, length, take, get_or, refl, sym, ap₂, arith}
use Rattle.std.proofs.lemmas.Bool.{and_from, le-leb, le-ltb, lt-ltb}
use Rattle.std.proofs.lemmas.Int.Digits.{digits_value_more}
use Rattle.std.proofs.lemmas.List.{get_or-take, length-take-le}
use Rattle.std.proofs.lemmas.List.Folds.{list_all_more}
use Rattle.std.specs.Char.{digit_value}
use Rattle.std.specs.List.{list_all}
use Rattle.std.specs.Prelude.{◌==◌, ◌||◌, not, nat_lt}
use Rattle.std.specs.Str.Parse.{digits_value}
use Rattle.table_rows.specs.Texts.{is_decimal, is_digit, is_empty, is_numeral}
use Rattle.script_lines.specs.ShortLines.{BeginsWithNumber}

digit_value-digit : (b : ℕ) → 48 ≤ b → b ≤ 57 → digit_value b ≡ b - 48
digit_value-digit b low high =
    let l : nat_lt b 48 ≡ false = le-ltb b 48 low in
    let h : nat_lt b 58 ≡ true = lt-ltb b 58 (omega arith) in
    rw (l, h) refl

-- one digit more
pub digits-more : (s : List ℕ) (i : ℕ) → i < length s → 48 ≤ get_or s i 0 → get_or s i 0 ≤ 57 → list_all is_digit (take i s) ≡ true → list_all is_digit (take (i + 1) s) ≡ true
digits-more s i lt low high so_far =
    list_all_more is_digit s i 0 lt ∙ and_from _ _ so_far (and_from _ _ (le-leb 48 (get_or s i 0) low) (le-leb (get_or s i 0) 57 high))

pub value-more : (s : List ℕ) (i value more : ℕ) → i < length s → 48 ≤ get_or s i 0 → get_or s i 0 ≤ 57 → more ≡ get_or s i 0 - 48 → value ≡ digits_value 10 (take i s)
    → value * 10 + more ≡ digits_value 10 (take (i + 1) s)
value-more s i value more lt low high is so_far =
    sym (digits_value_more 10 s i lt ∙ ap₂ (λ n d. n * 10 + d) (sym so_far) (digit_value-digit (get_or s i 0) low high ∙ sym is))

some-bytes : (s : List ℕ) → 0 < length s → is_empty s ≡ false
some-bytes [] h = absurd (omega (arith, h))
some-bytes (b ∷ s) h = refl

-- digits of which the first is no zero, or is the only one
decimal-from : (s : List ℕ) (n : ℕ) → 0 < n → n < length s → list_all is_digit (take n s) ≡ true → ((n == 1) || not (get_or s 0 0 == 48)) ≡ true → is_decimal (take n s) ≡ true
unfolding is_decimal is_numeral
decimal-from s n some inside digits first =
    let size : length (take n s) ≡ n = length-take-le n s (omega arith) in
    let here = some-bytes (take n s) (omega (arith, size)) in
    let same : get_or (take n s) 0 0 ≡ get_or s 0 0 = get_or-take n s 0 0 some in
    rw (digits, here, size, same) first

pub number-from : (s : List ℕ) (n value : ℕ) → 0 < n → n < length s → list_all is_digit (take n s) ≡ true → ((n == 1) || not (get_or s 0 0 == 48)) ≡ true → value ≡ digits_value 10 (take n s)
    → BeginsWithNumber s n value
number-from s n value some inside digits first is = record { inside = inside; decimal = decimal-from s n some inside digits first; same = sym is }
