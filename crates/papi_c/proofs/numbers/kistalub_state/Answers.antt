use Rattle.papi_c.proofs.Words.{rules, ◌≡◌, to_z, of_z, w32, GaveNumber}
use Rattle.call_type.specs.declared.call.Call.TheVariants as call
use Rattle.session_model.specs.declared.reply.Body.TheVariants as body
use Rattle.papi_c.proofs.Handles.{put_back}
use Rattle.papi_c.proofs.numbers.kistalub_state.Goals as goal

pub returns : goal.returns
returns c =
    let n = to_z w32 (of_z w32 c.give.result) in
    let same : n ≡ c.give.result = search rules in
    put_back (λ o l. GaveNumber o l (call.State c.args.set) (λ b. body.State b) n c.args.bits.now c.give.new.number) _ _ _ _ _ c.deref.ensures c.in-Some.ensures.taken c.put.ensures
    (record { answer = c.state-answer.result; step = c.state-answer.ensures.made; given = rw same c.give.ensures })
