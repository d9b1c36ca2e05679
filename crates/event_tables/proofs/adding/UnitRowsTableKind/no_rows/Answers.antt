use Rattle.event_tables.proofs.Reading.{none-read}
use Rattle.event_tables.proofs.adding.UnitRowsTableKind.no_rows.Goals as goal

pub returns : goal.returns
returns c = rw c.new.ensures.items none-read
