use Rattle.tool_output.proofs.Words.{◌≡◌, arith, refl, decimal, length-decimal-le, subst, sym, word_of, IsUtf8-from_ascii, LONGEST_VALUE}
use Rattle.papi_base.specs.Codes.{name_of}
use Rattle.std.proofs.lemmas.Fmt.{IsAscii-decimal}
use Rattle.std.proofs.lemmas.Str.{IsUtf8-append}
use Rattle.std.specs.Str.{IsUtf8}
use Rattle.tool_output.specs.declared.replies.heads.TheConstants.{HEAD_PARTS}
use Rattle.tool_output.proofs.Texts.{head_joined}
use Rattle.tool_output.proofs.replies.heads.write_head.Goals as goal

pub write_decimal-requires-clause-room : goal.write_decimal-requires-clause-room
write_decimal-requires-clause-room c =
    let k : LONGEST_VALUE ≡ 21 = refl in
    let parts : HEAD_PARTS ≡ 4 = refl in
    omega (arith, k, parts, c.requires.room, c.write_code-code_at.ensures.near, c.write_call-word_at.ensures.near, c.write_count-thread_at.ensures.near, length-decimal-le 20 c.args.line (omega arith) (omega arith) (omega arith))

pub returns-clause-written : goal.returns-clause-written
returns-clause-written c =
    head_joined (decimal c.args.line) (decimal c.args.thread) (word_of c.args.word) (name_of c.args.code) _ _ _ _ _
    c.write_code-code_at.ensures.written c.write_call-word_at.ensures.written (rw c.from.ensures at c.write_count-thread_at.ensures.written) c.write_decimal.ensures.written

pub returns-clause-text : goal.returns-clause-text
returns-clause-text c = λ h.
    subst IsUtf8 (sym c.write_decimal.ensures.written)
    (IsUtf8-append (decimal c.args.line) _ (IsUtf8-from_ascii _ (IsAscii-decimal c.args.line c.ranges.line.fits))
    (c.write_count-thread_at.ensures.text (c.write_call-word_at.ensures.text (c.write_code-code_at.ensures.text h))))
