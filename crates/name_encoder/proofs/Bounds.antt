-- A counter mask that was read is a byte.
use Rattle.name_encoder.proofs.Words.{◌≡◌, ◌<◌, ℕ, List, Option, Some, None, drop, find, refl, arith, nat_eq, codes, unwrap_or, starts_with}
use Rattle.name_encoder.proofs.Words.{option_map_or, cond_both, Text, decimal_in, hex_in, decimal_in-range, hex_in-range, SaidAttribute, cmask}
use Rattle.name_encoder.proofs.Words.{cmask_value, means, modifier, set_to, value_of}

pub value-bound : (v : Option Text) → unwrap_or (cmask_value v) 0 < 256
unfolding cmask_value
value-bound None = omega arith
value-bound (Some v) =
    cond_both (starts_with nat_eq v (codes "0x")) (hex_in 1 2 (drop 2 v)) (decimal_in 0 255 v) (λ o. unwrap_or o 0 < 256)
    (λ b. or-zero (hex_in 1 2 (drop 2 v)) (λ n e. let h = hex_in-range 1 2 (drop 2 v) n e in omega (arith, h)))
    (λ b. or-zero (decimal_in 0 255 v) (λ n e. let h = decimal_in-range 0 255 v n e in omega (arith, h.1)))
  where
    or-zero : (o : Option ℕ) → ((n : ℕ) → o ≡ Some n → n < 256) → unwrap_or o 0 < 256
    or-zero None h = omega arith
    or-zero (Some n) h = h n refl

pub cmask-bound : (said : List SaidAttribute) → set_to said cmask < 256
unfolding set_to
cmask-bound said = go (find (means (modifier cmask)) said)
  where
    go : (o : Option SaidAttribute) → option_map_or (λ (s : SaidAttribute). unwrap_or (value_of (modifier cmask) s.value) 0) o 0 < 256
    go None = omega arith
    go (Some s) = value-bound s.value
