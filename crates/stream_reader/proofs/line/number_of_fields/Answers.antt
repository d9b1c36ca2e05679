use Rattle.stream_reader.proofs.Words.{◌≡◌, ◌∙◌, ◌+◌, ◌==◌, ap, sym, arith, take, count_by, take_all, length-slice_split}
use Rattle.stream_reader.proofs.line.number_of_fields.Goals as goal

pub returns : goal.returns
returns c =
    let all : take c.loop-byte.byte-index c.args.text.now ≡ c.args.text.now = take_all c.loop-byte.byte-index c.args.text.now (omega arith) in
    ap (λ n. n + 1) (c.loop-byte.invariant.counted ∙ ap (count_by (λ b. b == 32)) all) ∙ sym (length-slice_split (λ b. b == 32) c.args.text.now)
