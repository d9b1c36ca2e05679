-- The mask of the lanes that are not digits, and how many digits come before the first of them.
use Rattle.std.proofs.Common.{◌≡◌, ℕ, ◌%◌, ◌^◌, ◌<◌, ◌≤◌, List, Bool, cond, leb, length, map, replicate, sym, ap, ◌∙◌, arith, w8}
use Rattle.stream_reader.proofs.Words.{zip2, mask_l, top, prefix_len, tops_compared, zip2_splat_left, mask_l-mod, leading_from_mask_l}
use Rattle.stream_reader.proofs.Words.{trailing_mask_l, length-map, prefix_len-le-length, count_trailing_zeros, is_value}

abbrev pub is_other : ℕ → Bool
is_other x = leb 16 x

abbrev pub others_mask : List ℕ → ℕ
others_mask v = mask_l (map (top 7) (zip2 (λ a b. cond (leb a b) 255 0) (replicate 16 16) v)) % 2 ^ 64

pub others-is : (v : List ℕ) → length v ≡ 16 → others_mask v ≡ mask_l (map is_other v)
others-is v long =
    ap (λ ms. mask_l ms % 2 ^ 64) (tops_compared w8 leb (replicate 16 16) v ∙ zip2_splat_left leb 16 16 v long)
    ∙ mask_l-mod (map is_other v) 64 (omega (arith, length-map v is_other))

pub run_all : (v : List ℕ) → length v ≡ 16 → others_mask v ≡ 0 → 16 ≡ prefix_len is_value v
run_all v long none = sym (leading_from_mask_l is_other v (sym (others-is v long) ∙ none) ∙ long)

pub run_some : (v : List ℕ) → length v ≡ 16 → 0 < others_mask v → count_trailing_zeros 64 (others_mask v) ≡ prefix_len is_value v
run_some v long some = ap (count_trailing_zeros 64) (others-is v long) ∙ trailing_mask_l is_other 64 v (omega arith) (omega (arith, others-is v long))

pub run_le : (v : List ℕ) → length v ≡ 16 → prefix_len is_value v ≤ 16
run_le v long = omega (arith, prefix_len-le-length is_value v)

pub run_most : (v : List ℕ) → length v ≡ 16 → 0 < others_mask v → count_trailing_zeros 64 (others_mask v) ≤ 16
run_most v long some = omega (arith, run_some v long some, run_le v long)
