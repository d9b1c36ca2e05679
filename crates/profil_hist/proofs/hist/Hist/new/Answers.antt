use Rattle.profil_hist.specs.Counts.{rows_text}
use Rattle.profil_hist.proofs.Fresh.{fresh-counts, fresh-kept}
use Rattle.profil_hist.proofs.hist.Hist.new.Goals as goal

pub invariant_of-result : goal.invariant_of-result
invariant_of-result c = (fresh-kept c.args.map (rows_text c.in_ok-rows.rows.items) c.zeros.ensures.kept c.in_ok-rows.ensures.rows, c.in_ok-order.ensures)

pub returns-clause-empty : goal.returns-clause-empty
returns-clause-empty c = fresh-counts c.args.map (rows_text c.in_ok-rows.rows.items) c.in_ok-rows.ensures.rows
