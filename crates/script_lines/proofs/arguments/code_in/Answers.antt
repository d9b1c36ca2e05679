use Rattle.std.proofs.Common.{arith, sym}
use Rattle.table_rows.proofs.Ranges.{hex_in-range}
use Rattle.script_lines.proofs.arguments.code_in.Goals as goal

pub overflow_cast-result : goal.overflow_cast-result
overflow_cast-result c = omega (arith, hex_in-range _ _ _ _ (sym c.in-Some.ensures))
