use Rattle.event_sets.proofs.Agreeing.{added_agrees, armed_agrees, assigned_agrees, emptied_agrees, removed_agrees}
use Rattle.event_sets.proofs.laws.agreement_laws.Goals as goal

pub returns : goal.returns
returns c = record { emptied = emptied_agrees; added = added_agrees; assigned = assigned_agrees; removed = removed_agrees; armed = armed_agrees }
