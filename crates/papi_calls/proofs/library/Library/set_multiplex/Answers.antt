use Rattle.std.proofs.Common.{refl}
use Rattle.call_type.specs.declared.call.Call.TheVariants as call
use Rattle.session_model.specs.Replies.{plain}
use Rattle.papi_calls.proofs.Calling.{may_call, still_whole, made}
use Rattle.papi_calls.proofs.library.Library.set_multiplex.Goals as goal

pub set_multiplex-requires : goal.set_multiplex-requires
set_multiplex-requires c =
    let q = c.self.inside in
    record { ready = may_call q.catalog q.codes c.book.result.now q.session c.book.ensures.book c.self.invariant }

pub invariant_of-self : goal.invariant_of-self
invariant_of-self c =
    let q = c.self.inside in
    still_whole q.catalog q.codes c.book.result.now q.session c.set_multiplex.new.self (call.SetMultiplex c.args.set c.args.slice) (plain c.set_multiplex.result) c.book.ensures.book c.set_multiplex.ensures c.self.invariant

pub returns : goal.returns
returns c =
    let q = c.self.inside in
    record { made = made q.catalog q.codes c.book.result.now q.session c.set_multiplex.new.self (call.SetMultiplex c.args.set c.args.slice) (plain c.set_multiplex.result) c.book.ensures.book c.set_multiplex.ensures _ c.self.view_is refl }
