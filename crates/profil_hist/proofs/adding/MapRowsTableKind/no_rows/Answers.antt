use Rattle.profil_hist.proofs.RowsRead.{none-read}
use Rattle.profil_hist.proofs.adding.MapRowsTableKind.no_rows.Goals as goal

pub returns : goal.returns
returns c = rw c.new.ensures.items none-read
