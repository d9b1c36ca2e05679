use Rattle.tool_output.proofs.Words.{◌≡◌, ◌-◌, ◌++◌, ◌∷◌, arith, refl, drop, decimal, length-decimal-le, rules, IsUtf8-from_ascii, LONGEST_VALUE}
use Rattle.std.proofs.lemmas.Fmt.{IsAscii-decimal}
use Rattle.std.specs.List.{slice_set}
use Rattle.tool_output.proofs.Texts.{space_before, word_before}
use Rattle.tool_output.proofs.replies.heads.write_count.Goals as goal

pub write_decimal-start-requires-clause-room : goal.write_decimal-start-requires-clause-room
write_decimal-start-requires-clause-room c =
    let k : LONGEST_VALUE ≡ 21 = refl in
    omega (arith, k, c.requires.room, length-decimal-le 20 c.args.number (omega arith) (omega arith) (omega arith))

pub overflow_sub-bytes : goal.overflow_sub-bytes
overflow_sub-bytes c =
    let k : LONGEST_VALUE ≡ 21 = refl in
    omega (arith, k, c.requires.room, c.write_decimal-start.ensures.start, length-decimal-le 20 c.args.number (omega arith) (omega arith) (omega arith))

pub overflow_sub-result : goal.overflow_sub-result
overflow_sub-result c =
    let k : LONGEST_VALUE ≡ 21 = refl in
    omega (arith, k, c.requires.room, c.write_decimal-start.ensures.start, length-decimal-le 20 c.args.number (omega arith) (omega arith) (omega arith))

pub returns : goal.returns
returns c =
    let k : LONGEST_VALUE ≡ 21 = refl in
    let w = c.write_decimal-start in
    let long = length-decimal-le 20 c.args.number (omega arith) (omega arith) (omega arith) in
    let rest = drop c.args.end c.args.bytes.now in
    let written : drop (w.result - 1) (slice_set w.new.bytes (w.result - 1) 32) ≡ 32 ∷ (decimal c.args.number ++ rest) =
    space_before w.new.bytes w.result (decimal c.args.number ++ rest) (omega (arith, k, c.requires.room, w.ensures.start, long)) (omega (arith, c.requires.inside, w.ensures.start, w.ensures.length)) w.ensures.written in record {
      length = search rules;
      near = omega (arith, k, w.ensures.start, long);
      before = omega (arith, w.ensures.start);
      written = written;
      text = λ h. word_before (decimal c.args.number) rest _ written (IsUtf8-from_ascii (decimal c.args.number) (IsAscii-decimal c.args.number c.ranges.number.fits)) h;
    }
