use Rattle.postfix_rules.proofs.Refusals.{first_faults, from_one, same_tokens}
use Rattle.postfix_rules.proofs.laws.reading_laws.Goals as goal

pub returns : goal.returns
returns c = record { tokens = same_tokens; faults = first_faults; places = from_one }
