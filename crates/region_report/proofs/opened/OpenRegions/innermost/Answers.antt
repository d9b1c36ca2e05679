use Rattle.region_report.proofs.Words.{arith, elements}
use Rattle.region_report.proofs.opened.OpenRegions.innermost.Goals as goal

pub returns : goal.returns
returns c = grind (arith, elements)
