use Rattle.table_rows.proofs.Words.{◌+◌, ◌≤◌, length, map, AllByRecursion, IsReadRow, rows_of}
use Rattle.table_rows.proofs.TablesRead.{Taken}
use Rattle.table_rows.proofs.table.read_table.Given as goal

abbrev pub invariant-loop-row : goal.invariant-loop-row
invariant-loop-row g l = record {
  few : l.place + length l.reader ≤ length l.fn.bytes;
  plain : AllByRecursion IsReadRow l.reader;
  taken : Taken (g.T.TableKind.cause l.fn.table) (g.T.TableKind.gives l.fn.table) (map g.T.TableKind.line_of (rows_of l.fn.bytes)) l.place (map g.T.TableKind.line_of l.reader) l.read;
}

abbrev pub decreases-loop-row : goal.decreases-loop-row
decreases-loop-row g l = length l.reader
