use Rattle.event_tables.proofs.Words.{sym, subst, fields_of, IsLine, line_of}
use Rattle.event_tables.proofs.LinesKept.{line_of-kept}
use Rattle.event_tables.proofs.Reading.{row-taken}
use Rattle.event_tables.proofs.adding.UnitRowsTableKind.take_row.Goals as goal

pub add_row-requires-clause-line : goal.add_row-requires-clause-line
add_row-requires-clause-line c = subst IsLine (sym c.row_of.ensures) (line_of-kept _)

pub returns : goal.returns
returns c = λ above read.
    row-taken above (line_of (fields_of c.args.row.now)) c.args.components.now.items c.add_row.new.components.items c.add_row.result
    (line_of-kept _) read (rw c.row_of.ensures at c.add_row.ensures.adds) c.add_row.ensures.indexed
