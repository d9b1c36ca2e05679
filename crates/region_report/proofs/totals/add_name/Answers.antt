use Rattle.region_report.proofs.Words.{refl, bytes_eq}
use Rattle.region_report.proofs.TotalsKept.{inserted}
use Rattle.region_report.proofs.totals.add_name.Goals as goal

pub returns : goal.returns
returns c = inserted (λ n. n.now) (λ a b. bytes_eq a.now b.now) c.args.names.now.keys c.insert.new.self.keys c.args.name (λ y. refl) c.in_ok-insert.ensures.keys
