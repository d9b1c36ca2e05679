use Rattle.std.proofs.Common.{arith, sym}
use Rattle.table_rows.proofs.Ranges.{decimal_in-range}
use Rattle.script_lines.proofs.line.thread_in.Goals as goal

pub overflow_cast-result : goal.overflow_cast-result
overflow_cast-result c = omega (arith, (decimal_in-range _ _ _ _ (sym c.in-Some.ensures)).1)

pub returns-in-Some-clause-below : goal.returns-in-Some-clause-below
returns-in-Some-clause-below c = omega (arith, (decimal_in-range _ _ _ _ (sym c.in-Some.ensures)).1)
