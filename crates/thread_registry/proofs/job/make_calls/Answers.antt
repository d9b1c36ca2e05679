use Rattle.thread_registry.proofs.Words.{rules, refl, get_or, follows_reply, Register}
use Rattle.thread_registry.proofs.Going.{going-more, going-cut, going-end}
use Rattle.thread_registry.proofs.job.make_calls.Goals as goal

pub loop-call-preserved : goal.loop-call-preserved
loop-call-preserved g c =
    let all = c.call_into.ensures in
    let made = c.in_ok-call_into.ensures in
    let reply = made.replied.0 in
    let replied = made.replied.2 in
    going-more _ _ _ _ _ (get_or c.args.calls.now c.loop-call.call-index Register) reply c.loop-call.invariant (search rules) (search rules)
    (record { shape = all.shape; ready = all.ready; faults = all.faults; grown = all.grown; faulty = replied.faulty; follows = λ a s. (made.stands a s, follows_reply _ _ _ _ _ _ _ a replied.follows s, made.notes a s); towards = replied.towards })
    refl refl made.replied.1

pub returns-in_err-call_into : goal.returns-in_err-call_into
returns-in_err-call_into g c =
    let all = c.call_into.ensures in
    let refused = c.in_err-call_into.ensures in
    going-cut _ _ _ _ _ (get_or c.args.calls.now c.loop-call.call-index Register) c.loop-call.invariant (search rules) (search rules)
    (record { shape = all.shape; ready = all.ready; faults = all.faults; grown = all.grown; part = refused.begun; towards = refused.starved })
    refl (search rules) refused.err

pub returns : goal.returns
returns g c = going-end _ _ _ _ c.loop-call.invariant (search rules)
