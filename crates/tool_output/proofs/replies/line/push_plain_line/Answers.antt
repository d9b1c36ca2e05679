use Rattle.tool_output.proofs.Words.{◌≡◌, ◌-◌, ◌++◌, [], decimal, rules, string_bytes, subst, word_of, IsUtf8-from_ascii, OnOk, line_text}
use Rattle.papi_base.specs.Codes.{name_of}
use Rattle.tool_output.specs.Replies.{Text}
use Rattle.tool_output.specs.declared.replies.line.TheConstants.{LONGEST_LINE}
use Rattle.tool_output.proofs.Texts.{line_before, newline_ascii, newline_last, no_results}
use Rattle.tool_output.proofs.replies.line.push_plain_line.Goals as goal

pub push_from-requires-clause-text : goal.push_from-requires-clause-text
push_from-requires-clause-text c = c.write_head-start.ensures.text (IsUtf8-from_ascii _ (newline_ascii c.args.buffer.now.bytes (LONGEST_LINE - 1) (search rules)))

pub returns : goal.returns
unfolding line_text
returns c = record {
  text = λ catalog.
      let tail = newline_last c.args.buffer.now.bytes (LONGEST_LINE - 1) (search rules) in
      subst (λ (t : Text). OnOk c.push_from.result (string_bytes c.push_from.new.text ≡ string_bytes c.args.text.now ++ t))
      (line_before (decimal c.args.line) (decimal c.args.thread) (word_of c.args.word) (name_of c.args.code) [] _ _ (no_results _ tail) c.write_head-start.ensures.written)
      c.push_from.ensures;
}
