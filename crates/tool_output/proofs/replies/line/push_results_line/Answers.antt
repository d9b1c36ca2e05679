use Rattle.tool_output.proofs.Words.{◌≡◌, arith, decimal, drop_all, length, rules, subst, sym, word_of, line_text}
use Rattle.papi_base.specs.Codes.{name_of}
use Rattle.std.proofs.lemmas.Str.{IsUtf8-nil}
use Rattle.std.specs.Str.{IsUtf8}
use Rattle.tool_output.specs.Replies.{results_of}
use Rattle.tool_output.specs.declared.replies.line.TheConstants.{LONGEST_LINE}
use Rattle.tool_output.proofs.Texts.{line_after}
use Rattle.tool_output.proofs.replies.line.push_results_line.Goals as goal

pub push_from-requires-clause-text : goal.push_from-requires-clause-text
push_from-requires-clause-text c =
    let bytes = c.new-buffer.result.bytes in
    let size : length bytes ≡ LONGEST_LINE = search rules in
    c.write_head-start.ensures.text (subst IsUtf8 (sym (drop_all LONGEST_LINE bytes (omega (arith, size)))) IsUtf8-nil)

pub returns : goal.returns
unfolding line_text
returns c =
    let bytes = c.new-buffer.result.bytes in
    let size : length bytes ≡ LONGEST_LINE = search rules in
    let reply = c.args.reply.now in
    record {
      text = line_after _ (decimal c.args.line) (decimal c.args.thread) (word_of c.args.word) (name_of reply.code) (results_of c.args.catalog.now reply.body) _ _ _ _ _
          (drop_all LONGEST_LINE bytes (omega (arith, size))) c.write_head-start.ensures.written c.in_ok-push_from.ensures c.in_ok-push_results.ensures c.in_ok-push_str.ensures.bytes;
    }
