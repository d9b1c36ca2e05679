use Rattle.std.proofs.Common.{◌∙◌, ap, sym}
use Rattle.session_model.specs.declared.reply.Body.{Body}
use Rattle.thread_core.specs.Following.{reply_of}
use Rattle.thread_session.proofs.answers.reply.Goals as goal

pub returns-in-Ok : goal.returns-in-Ok
returns-in-Ok c = sym (ap (reply_of (λ (b : Body). b)) c.in-Ok.is)

pub returns-in-Err : goal.returns-in-Err
returns-in-Err c = c.plain.ensures ∙ sym (ap (reply_of (λ (b : Body). b)) c.in-Err.is)
