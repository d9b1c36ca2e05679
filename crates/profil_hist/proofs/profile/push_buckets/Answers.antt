use Rattle.std.proofs.Common.{arith}
use Rattle.profil_hist.proofs.Words.{number_more}
use Rattle.profil_hist.proofs.profile.push_buckets.Goals as goal

pub loop-i-preserved : goal.loop-i-preserved
loop-i-preserved c = grind (arith, number_more)
