use Rattle.session_model.proofs.FitStays.{fit_stays, opening_fits}
use Rattle.session_model.proofs.keeping.fit_laws.Goals as goal

pub returns : goal.returns
returns c = record { opening = opening_fits; stays = fit_stays }
