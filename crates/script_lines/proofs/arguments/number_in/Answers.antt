use Rattle.std.proofs.Common.{arith, sym}
use Rattle.table_rows.proofs.Ranges.{decimal_in-range}
use Rattle.script_lines.proofs.arguments.number_in.Goals as goal

pub overflow_cast-result : goal.overflow_cast-result
overflow_cast-result c = omega (arith, (decimal_in-range _ _ _ _ (sym c.in-Some.ensures)).1)
