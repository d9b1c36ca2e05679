use Rattle.region_report.proofs.Words.{◌∙◌, bytes_eq}
use Rattle.region_report.proofs.TotalsKept.{position_seen}
use Rattle.region_report.proofs.totals.place_in.Goals as goal

pub returns-clause-place : goal.returns-clause-place
returns-clause-place c = c.get_index_of.ensures.index ∙ position_seen (λ n. n.now) (bytes_eq c.args.name.now) c.args.names.now.keys
