use Rattle.std.proofs.Common.{◌∙◌, arith, sym}
use Rattle.component_table.proofs.RowCodes.{code-found, code-missing}
use Rattle.component_table.proofs.catalog.Catalog.row_of_code.Goals as goal

pub returns-then-code_of_row-code : goal.returns-then-code_of_row-code
returns-then-code_of_row-code c = record {
  row = sym (code-found c.args.self.now c.loop-row.row c.args.code (omega (arith, c.loop-row-test.true, c.rows-row-end.ensures.rows)) c.loop-row.invariant
      (sym c.code_of_row.ensures ∙ c.if-code_of_row-code.true));
}

pub returns : goal.returns
returns c = record { row = sym (code-missing c.args.self.now c.loop-row.row c.args.code (omega (arith, c.loop-row-test.false, c.rows-row-end.ensures.rows)) c.loop-row.invariant) }
