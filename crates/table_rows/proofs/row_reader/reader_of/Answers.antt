use Rattle.table_rows.proofs.Words.{ap₂, rows_from, rows_of}
use Rattle.table_rows.proofs.row_reader.reader_of.Goals as goal

pub returns-clause-all : goal.returns-clause-all
unfolding rows_of
returns-clause-all c = ap₂ rows_from c.from_reader.ensures.state c.from_reader.ensures.source
