use Rattle.component_table.proofs.RowCodes.{NoneBelow}
use Rattle.component_table.proofs.catalog.Catalog.row_of_code.Given as goal

abbrev pub invariant-loop-row : goal.invariant-loop-row
invariant-loop-row l = NoneBelow l.row l.code
