use Rattle.call_laws.proofs.Words.{All, FitsSigned, take, w64}
use Rattle.call_laws.proofs.regions.readings_fit.Given as goal

abbrev pub invariant-loop-reading : goal.invariant-loop-reading
invariant-loop-reading l = All (λ r. All (FitsSigned w64) r.values) (take l.reading-index l.readings)
