-- The causes of numbers that are too large.
use Rattle.postfix_rules.proofs.Words.{◌≡◌, ◌<◌, ◌≤◌, ◌^◌, ℕ, Some, None, true, false, refl, arith, tests, nat_lt, le-ltb, if◌then◌else◌}
use Rattle.postfix_rules.proofs.Words.{digits_value, is_given, not_given, is_numeral, token_cause, constant_part, native_part, Text}
use Rattle.postfix_rules.specs.declared.fault.FormulaCause.TheVariants as cause

-- a number that needs more than 64 bits
pub wide : (n : ℕ) → None ≡ (if nat_lt n (2 ^ 64) then Some n else None) → 2 ^ 64 ≤ n
wide n e = let p = not_given (nat_lt n (2 ^ 64)) n e in grind (arith, tests, p)

-- a number that 64 bits hold
pub held : (n i : ℕ) → Some i ≡ (if nat_lt n (2 ^ 64) then Some n else None) → i ≡ n
held n i e = (is_given (nat_lt n (2 ^ 64)) n i e).1

pub constant-large : (t : Text) (natives height : ℕ) → 2 ^ 63 ≤ digits_value 10 t → token_cause natives height (constant_part t) ≡ Some cause.ConstantTooLarge
unfolding token_cause
constant-large t natives height le = let no : nat_lt (digits_value 10 t) (2 ^ 63) ≡ false = le-ltb _ _ le in rw no refl

pub native-large : (t : Text) (natives height : ℕ) → is_numeral t ≡ true → natives < 2 ^ 32 → 2 ^ 32 ≤ digits_value 10 t → token_cause natives height (native_part t) ≡ Some cause.NativeRange
unfolding token_cause
native-large t natives height e lt le = let no : nat_lt (digits_value 10 t) natives ≡ false = le-ltb _ _ (omega arith) in rw (e, no) refl

pub none-unknown : (natives height : ℕ) → token_cause natives height None ≡ Some cause.UnknownToken
unfolding token_cause
none-unknown natives height = refl
