use Rattle.std.proofs.Common.{length}
use Rattle.postfix_rules.proofs.SoFar.{SoFar}
use Rattle.postfix_rules.proofs.reading.formula_in.Given as goal

abbrev pub invariant-loop-piece : goal.invariant-loop-piece
invariant-loop-piece l = SoFar l.natives l.text l.rest l.tokens.items l.height

abbrev pub decreases-loop-piece : goal.decreases-loop-piece
decreases-loop-piece l = length l.rest
