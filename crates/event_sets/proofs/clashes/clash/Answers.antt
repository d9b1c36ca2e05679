-- what the matching answers is what the definition says
use Rattle.event_sets.proofs.Words.{rules, none_of}
use Rattle.event_sets.proofs.Clashing.{a_clash, are_masks, no_clash}
use Rattle.event_sets.proofs.clashes.clash.Goals as goal

pub returns-in-Ok-clause-clash : goal.returns-in-Ok-clause-clash
returns-in-Ok-clause-clash c = search (rules, no_clash, none_of, are_masks)

pub returns-in-Err-clause-clash : goal.returns-in-Err-clause-clash
returns-in-Err-clause-clash c = search (rules, a_clash, none_of, are_masks)
