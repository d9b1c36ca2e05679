use Rattle.table_rows.proofs.ReaderRows.{rows-few}
use Rattle.table_rows.proofs.row_reader.RowReader.new.Goals as goal

pub returns-clause-few : goal.returns-clause-few
returns-clause-few c = rows-few c.args.bytes.now
