use Rattle.std.proofs.Common.{arith}
use Rattle.profil_hist.proofs.Words.{line_of}
use Rattle.profil_hist.proofs.LinesKept.{line_of-kept}
use Rattle.profil_hist.proofs.RowsRead.{row-taken}
use Rattle.profil_hist.proofs.adding.MapRowsTableKind.take_row.Goals as goal

pub returns : goal.returns
returns c = grind (arith, row-taken, line_of, line_of-kept)
