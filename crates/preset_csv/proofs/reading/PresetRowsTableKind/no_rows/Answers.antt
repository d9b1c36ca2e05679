use Rattle.preset_csv.specs.Entries.{judged}
use Rattle.preset_csv.proofs.RowsTaken.{none-taken}
use Rattle.preset_csv.proofs.reading.PresetRowsTableKind.no_rows.Goals as goal

pub returns : goal.returns
returns c = none-taken judged _ c.new.result c.in_ok-all_missing.field-0.items c.new.ensures c.in_ok-all_missing.ensures
