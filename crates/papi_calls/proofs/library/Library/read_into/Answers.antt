use Rattle.std.proofs.Common.{◌≡◌, List, length, refl, subst}
use Rattle.std.specs.Prelude.{ℤ, IfOk, OnOk}
use Rattle.thread_core.specs.Told.{AreGiven}
use Rattle.papi_calls.proofs.Calling.{read_still, told}
use Rattle.papi_calls.proofs.library.Library.read_into.Goals as goal

pub returns-clause-made : goal.returns-clause-made
returns-clause-made c =
    let q = c.self.inside in
    read_still q.catalog q.codes c.book.result.now q.session c.args.set c.read_into.result c.book.ensures.book c.read_into.ensures.does _ c.self.view_is refl

pub returns-clause-count : goal.returns-clause-count
returns-clause-count c =
    let q = c.self.inside in
    subst (λ (values : List ℤ). IfOk c.read_into.result (λ n. n ≡ length values)) (told q.catalog q.codes c.book.result.now q.session c.args.set c.book.ensures.book _ c.self.view_is)
    c.read_into.ensures.count

pub returns-clause-given : goal.returns-clause-given
returns-clause-given c =
    let q = c.self.inside in
    subst (λ (values : List ℤ). OnOk c.read_into.result (AreGiven values c.args.out.now c.read_into.new.out))
    (told q.catalog q.codes c.book.result.now q.session c.args.set c.book.ensures.book _ c.self.view_is) c.read_into.ensures.given
