use Rattle.stream_reader.proofs.Words.{◌≡◌, ◌∙◌, ◌+◌, ◌-◌, ap, sym, drop, ◌≤◌, take, arith, length, length-drop, take-paste, paste}
use Rattle.stream_reader.proofs.piece.move_rest.Goals as goal

pub returns : goal.returns
returns c =
    let bytes = c.args.bytes.now in
    let k = c.args.to - c.args.from in
    let sum : (128 - k) + k ≡ 128 = omega arith in
    let rest : k ≤ length (drop c.args.from bytes) = omega (arith, length-drop c.args.from bytes, c.told-bytes) in
    ap (take 128) c.copy_within.ensures.after ∙ ap (λ n. take n (paste bytes (128 - k) (drop c.args.from bytes) k)) (sym sum)
    ∙ take-paste bytes (128 - k) (drop c.args.from bytes) k (omega (arith, c.told-bytes)) rest
