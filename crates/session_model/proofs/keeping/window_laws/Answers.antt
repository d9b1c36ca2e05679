use Rattle.session_model.proofs.Apart.{apart_stays, opening_apart}
use Rattle.session_model.proofs.Within.{opening_within, rise_stays, within_stays}
use Rattle.session_model.proofs.keeping.window_laws.Goals as goal

pub returns : goal.returns
returns c = record { opening_within = opening_within; within = within_stays; rises = rise_stays; opening_apart = opening_apart; apart = apart_stays }
