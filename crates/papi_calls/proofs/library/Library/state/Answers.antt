use Rattle.std.proofs.Common.{refl}
use Rattle.call_type.specs.declared.call.Call.TheVariants as call
use Rattle.session_model.specs.declared.reply.Body.TheVariants as body
use Rattle.thread_core.specs.Following.{reply_of}
use Rattle.papi_calls.proofs.Calling.{may_call, made_still}
use Rattle.papi_calls.proofs.library.Library.state.Goals as goal

pub state-requires : goal.state-requires
state-requires c =
    let q = c.self.inside in
    record { ready = may_call q.catalog q.codes c.book.result.now q.session c.book.ensures.book c.self.invariant }

pub returns : goal.returns
returns c =
    let q = c.self.inside in
    record { made = made_still q.catalog q.codes c.book.result.now q.session (call.State c.args.set) (reply_of (λ value. body.State value) c.state.result) c.book.ensures.book c.state.ensures _ c.self.view_is refl }
