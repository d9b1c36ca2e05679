use Rattle.stream_reader.proofs.Words.{◌≡◌, ◌∙◌, ◌==◌, ℕ, List, length, take, sym, ap, arith, w8, bitmask_splat, leading_from_mask_l, trailing_mask_l}
use Rattle.stream_reader.proofs.Words.{length-take-le, count_trailing_zeros}
use Rattle.stream_reader.proofs.newline.before_newline.Goals as goal

pub returns-then-newlines-eq0 : goal.returns-then-newlines-eq0
returns-then-newlines-eq0 c =
    let bytes : List ℕ = take 32 c.args.text.now in
    let long : length bytes ≡ 32 = length-take-le 32 c.args.text.now c.requires in
    let mask = bitmask_splat w8 (λ a b. a == b) bytes 32 10 long (omega arith) in
    sym (leading_from_mask_l (λ b. b == 10) bytes (sym mask ∙ c.if-newlines-eq0.true) ∙ long)

pub returns-else-newlines-eq0 : goal.returns-else-newlines-eq0
returns-else-newlines-eq0 c =
    let bytes : List ℕ = take 32 c.args.text.now in
    let long : length bytes ≡ 32 = length-take-le 32 c.args.text.now c.requires in
    let mask = bitmask_splat w8 (λ a b. a == b) bytes 32 10 long (omega arith) in
    ap (count_trailing_zeros 64) mask ∙ trailing_mask_l (λ b. b == 10) 64 bytes (omega (arith, long)) (omega (arith, mask, c.if-newlines-eq0.false))
