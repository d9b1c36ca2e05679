use Rattle.profil_hist.proofs.Words.{arith, decimal_in-range}
use Rattle.profil_hist.proofs.row.width_in.Goals as goal

pub overflow_cast-result : goal.overflow_cast-result
overflow_cast-result c = grind (arith, decimal_in-range)
