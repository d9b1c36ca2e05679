use Rattle.session_model.proofs.Counted.{opening_valued, places_stay, values_stay}
use Rattle.session_model.proofs.keeping.place_laws.Goals as goal

pub returns : goal.returns
returns c = record { places = places_stay; opening_valued = opening_valued; values = values_stay }
