use Rattle.call_laws.proofs.Words.{All, FitsSigned, List, subst, w64, take_all, All-map, Reading}
use Rattle.call_laws.proofs.regions.readings_fit.Goals as goal

abbrev Fit : Reading → Type 0
Fit r = All (FitsSigned w64) r.values

pub returns : goal.returns
returns c =
    let readings : List Reading = c.args.readings.now in
    All-map (λ values. All (FitsSigned w64) values) (λ (r : Reading). r.values) readings
    (subst (All Fit) (take_all c.loop-reading.reading-index readings c.loop-reading-test.false) c.loop-reading.invariant)
