use Rattle.table_rows.proofs.ReaderRows.{at-row, reads}
use Rattle.table_rows.proofs.row_reader.read_next.Goals as goal

pub returns-clause-next : goal.returns-clause-next
returns-clause-next c =
    reads c.in-Ok.found c.args.reader.now c.read_byte_record.new.self _ c.requires (c.in-Ok.ensures.reads c.requires.trim c.requires.ready) (c.in-Ok.ensures.ready c.requires.trim)

pub returns-clause-place : goal.returns-clause-place
returns-clause-place c =
    at-row c.in-Ok.found c.args.reader.now c.read_byte_record.new.self _ c.requires (c.in-Ok.ensures.reads c.requires.trim c.requires.ready) (c.in-Ok.ensures.ready c.requires.trim)
