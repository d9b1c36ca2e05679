use Rattle.std.proofs.Common.{arith}
use Rattle.region_report.proofs.TotalsKept.{set_total}
use Rattle.region_report.proofs.totals.add_at.Goals as goal

pub returns-in-Some : goal.returns-in-Some
returns-in-Some c =
    let within = rw c.in-Some.is at c.requires.within in
    rw c.in-Some.is (set_total c.in-Some.place c.args.values.now c.args.totals.now.items c.index_mut.result.now _ (omega (arith, within)) c.index_mut.ensures.value c.add_instance.ensures)
