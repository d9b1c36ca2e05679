use Rattle.std.proofs.Common.{rules, ◌≡◌, sym, subst, to_z, of_z, w32}
use Rattle.papi_c.specs.Placed.{Listed}
use Rattle.papi_c.proofs.codes.kistalub_list_events.Goals as goal

pub returns-clause-lists : goal.returns-clause-lists
returns-clause-lists c =
    let n = to_z w32 (of_z w32 c.list_set-answer.result) in
    let same : n ≡ c.list_set-answer.result = search rules in
    let counted = c.args.count.now in
    let count = c.list_set-answer.new.count in
    let listed : Listed c.in-Some.library.value c.args.set n counted count c.args.out.now c.list_set-answer.new.out =
    rw same (subst (λ l. Listed l c.args.set c.list_set-answer.result counted count c.args.out.now c.list_set-answer.new.out)
    c.deref.ensures c.list_set-answer.ensures.listed) in
    rw (sym c.in-Some.ensures.taken) listed
