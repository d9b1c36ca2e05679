use Rattle.papi_c.proofs.Words.{rules, ◌≡◌, ◌∙◌, to_z, of_z, w32, GaveValues}
use Rattle.call_type.specs.declared.call.Call.TheVariants as call
use Rattle.papi_c.proofs.Handles.{put_back}
use Rattle.papi_c.proofs.Giving.{gave}
use Rattle.papi_c.proofs.values.kistalub_read.Goals as goal

pub returns : goal.returns
returns c =
    let n = to_z w32 (of_z w32 c.give_count.result) in
    let same : n ≡ c.give_count.result = search rules in
    let out = c.read_into-answer.new.out in
    record {
      gives = put_back (λ o l. GaveValues o l (call.Read c.args.set) n c.give_count.new.count c.args.out.now out) _ _ _ _ _ c.deref.ensures c.in-Some.ensures.taken c.put.ensures
          (gave _ _ (call.Read c.args.set) c.read_into-answer.result _ c.args.out.now out n c.give_count.new.count
          c.read_into-answer.ensures.made c.read_into-answer.ensures.count c.read_into-answer.ensures.given
          c.read_into-answer.ensures.refused c.read_into-answer.ensures.kept (same ∙ c.give_count.ensures.number) c.give_count.ensures.count);
    }
