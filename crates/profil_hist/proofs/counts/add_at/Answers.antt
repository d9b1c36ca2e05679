use Rattle.profil_hist.proofs.Words.{arith, get_or-le-sum_by}
use Rattle.profil_hist.proofs.Rows.{noted-items, row-le-sum, there}
use Rattle.profil_hist.proofs.counts.add_at.Goals as goal

pub add-requires-clause-hits_room : goal.add-requires-clause-hits_room
add-requires-clause-hits_room c = grind (arith, there, row-le-sum)

pub add-requires-clause-bucket_room : goal.add-requires-clause-bucket_room
add-requires-clause-bucket_room c = grind (arith, there, row-le-sum, get_or-le-sum_by)

pub returns : goal.returns
returns c = grind (arith, there, noted-items)
