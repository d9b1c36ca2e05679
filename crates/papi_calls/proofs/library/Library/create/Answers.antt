use Rattle.std.proofs.Common.{refl}
use Rattle.call_type.specs.declared.call.Call.TheVariants as call
use Rattle.session_model.specs.declared.reply.Body.TheVariants as body
use Rattle.thread_core.specs.Following.{reply_of}
use Rattle.papi_calls.proofs.Calling.{may_call, still_whole, made}
use Rattle.papi_calls.proofs.library.Library.create.Goals as goal

pub create-requires : goal.create-requires
create-requires c =
    let q = c.self.inside in
    record { ready = may_call q.catalog q.codes c.book.result.now q.session c.book.ensures.book c.self.invariant }

pub invariant_of-self : goal.invariant_of-self
invariant_of-self c =
    let q = c.self.inside in
    still_whole q.catalog q.codes c.book.result.now q.session c.create.new.self call.Create (reply_of (λ value. body.SetNumber value) c.create.result) c.book.ensures.book c.create.ensures c.self.invariant

pub returns : goal.returns
returns c =
    let q = c.self.inside in
    record { made = made q.catalog q.codes c.book.result.now q.session c.create.new.self call.Create (reply_of (λ value. body.SetNumber value) c.create.result) c.book.ensures.book c.create.ensures _ c.self.view_is refl }
