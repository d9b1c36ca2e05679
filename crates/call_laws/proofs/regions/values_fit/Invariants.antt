use Rattle.call_laws.proofs.Words.{All, FitsSigned, take, w64}
use Rattle.call_laws.proofs.regions.values_fit.Given as goal

abbrev pub invariant-loop-i : goal.invariant-loop-i
invariant-loop-i l = All (FitsSigned w64) (take l.i l.values)
