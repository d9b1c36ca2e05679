-- the texts that are left, with the set so far
use Rattle.tool_output.proofs.Words.{◌≡◌, drop, Ok, new_set, with_texts, IsOver}
use Rattle.tool_output.proofs.chooser.given.given_set.Given as goal

abbrev pub invariant-loop-text : goal.invariant-loop-text
invariant-loop-text l = record {
  so_far : with_texts l.catalog (Ok l.set.rest) (drop l.text-index l.texts) ≡ with_texts l.catalog (Ok new_set) l.texts;
  over : IsOver l.catalog l.set;
}
