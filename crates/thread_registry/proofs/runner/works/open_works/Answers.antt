use Rattle.thread_registry.proofs.Words.{rules, arith, ap, sym, ◌∙◌, map, map-id, nat_tests, length_push, map-append, YieldsList-end}
use Rattle.thread_registry.proofs.Words.{YieldsList-from_vec}
use Rattle.thread_registry.proofs.Lists.{map-push}
use Rattle.thread_registry.proofs.OpenedWorks.{work-more}
use Rattle.thread_registry.proofs.runner.works.open_works.Goals as goal

pub loop-calls-preserved : goal.loop-calls-preserved
loop-calls-preserved c = grind (arith, nat_tests, length_push, work-more, map-push, map-append)

pub returns-clause-calls : goal.returns-clause-calls
returns-clause-calls c =
    let end =
    YieldsList-end (YieldsList-from_vec {s = c.into_iter-calls-iterator.result} c.args.lists.items (search rules) (search rules))
    c.loop-calls.yielded c.loop-calls.calls-iterator c.loop-calls.yielded_by c.next.result c.next.new.self c.in-None.is c.next.ensures.steps in
    c.loop-calls.invariant.calls ∙ ap (map (λ v. v.items)) (sym (map-id c.loop-calls.yielded) ∙ end.0)

pub returns-clause-len : goal.returns-clause-len
returns-clause-len c =
    let end =
    YieldsList-end (YieldsList-from_vec {s = c.into_iter-calls-iterator.result} c.args.lists.items (search rules) (search rules))
    c.loop-calls.yielded c.loop-calls.calls-iterator c.loop-calls.yielded_by c.next.result c.next.new.self c.in-None.is c.next.ensures.steps in
    omega (arith, c.loop-calls.invariant.len, end.1, c.args.lists.ok.0)
