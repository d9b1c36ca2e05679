use Rattle.tool_output.proofs.Words.{◌≡◌, ◌∙◌, ◌++◌, ap, string_bytes, subst, sym, take, OnOk, line_text}
use Rattle.session_model.specs.declared.reply.Body.{Body}
use Rattle.session_model.specs.declared.reply.Body.TheVariants as body
use Rattle.tool_output.proofs.replies.line.push_reply_line.Goals as goal

pub returns-in-Values : goal.returns-in-Values
returns-in-Values c =
    let p = c.push_values_line in
    let reply = c.args.reply.now in
    let listed = ap (λ n. take n c.listed-items.result) c.len.ensures.length ∙ c.listed-items.ensures in record {
      text = subst (λ (b : Body). OnOk p.result (string_bytes p.new.text ≡ string_bytes c.args.text.now ++ line_text c.args.catalog.now c.args.line c.args.thread c.args.word (record { code = reply.code; body = b })))
          (ap body.Values listed ∙ sym c.in-Values.is) (p.ensures.text c.args.catalog.now);
    }

pub returns-in-Nothing : goal.returns-in-Nothing
returns-in-Nothing c =
    let p = c.push_plain_line in
    let reply = c.args.reply.now in record {
      text = subst (λ (b : Body). OnOk p.result (string_bytes p.new.text ≡ string_bytes c.args.text.now ++ line_text c.args.catalog.now c.args.line c.args.thread c.args.word (record { code = reply.code; body = b })))
          (sym c.in-Nothing.is) (p.ensures.text c.args.catalog.now);
    }

pub returns-in-Ran : goal.returns-in-Ran
returns-in-Ran c =
    let p = c.push_ran_line in
    let reply = c.args.reply.now in record {
      text = subst (λ (b : Body). OnOk p.result (string_bytes p.new.text ≡ string_bytes c.args.text.now ++ line_text c.args.catalog.now c.args.line c.args.thread c.args.word (record { code = reply.code; body = b })))
          (sym c.in-Ran.is) (p.ensures.text c.args.catalog.now);
    }
