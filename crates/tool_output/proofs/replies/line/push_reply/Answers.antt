use Rattle.tool_output.proofs.Words.{◌∙◌, ◌∷◌, ◌++◌, ap, append-nil, string_bytes}
use Rattle.papi_base.specs.Codes.{name_of}
use Rattle.tool_output.specs.Replies.{Text}
use Rattle.tool_output.proofs.Texts.{reply_joined}
use Rattle.tool_output.proofs.replies.line.push_reply.Goals as goal

pub returns : goal.returns
returns c =
    let code = name_of c.args.reply.now.code in
    let head = c.in_ok-push_from.ensures ∙ ap (λ (t : Text). string_bytes c.args.text.now ++ t) (c.write_code-start.ensures.written ∙ ap (λ (t : Text). 32 ∷ t) (append-nil code)) in
    record { text = reply_joined _ code _ _ _ head c.in_ok-push_results.ensures }
