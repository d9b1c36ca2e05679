use Rattle.user_events.proofs.ByGrammar.{entries_are_by_grammar}
use Rattle.user_events.proofs.laws.grammar_law.Goals as goal

pub returns : goal.returns
returns c = let laws = c.infix_laws.ensures in entries_are_by_grammar laws.tree laws.faults laws.places
