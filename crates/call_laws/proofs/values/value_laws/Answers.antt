use Rattle.call_laws.proofs.Shown.{read_shows, stop_shows}
use Rattle.call_laws.proofs.values.value_laws.Goals as goal

pub returns : goal.returns
returns c = record { read = read_shows; stop = stop_shows }
