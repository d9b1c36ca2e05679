use Rattle.session_model.proofs.AgreementStays.{agreement_stays, opening_agrees}
use Rattle.session_model.proofs.keeping.agreement_laws.Goals as goal

pub returns : goal.returns
returns c = record { opening = opening_agrees; stays = agreement_stays }
