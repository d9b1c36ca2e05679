use Rattle.std.proofs.Common.{◌∙◌, arith, sym}
use Rattle.component_table.proofs.RowCodes.{code-here, code-past}
use Rattle.component_table.proofs.catalog.Catalog.code_at.Goals as goal

pub returns-then-row-rows : goal.returns-then-row-rows
returns-then-row-rows c = record { code = c.code_of_row.ensures ∙ sym (code-here c.args.self.now c.args.row (omega (arith, c.if-row-rows.true, c.rows.ensures.rows))) }

pub returns-else-row-rows : goal.returns-else-row-rows
returns-else-row-rows c = record { code = sym (code-past c.args.self.now c.args.row (omega (arith, c.if-row-rows.false, c.rows.ensures.rows))) }
