use Rattle.std.proofs.Common.{◌<◌, arith, ap, length, length-take-le}
use Rattle.std.proofs.Math.Seq.{take-set-lt}
use Rattle.papi_base.proofs.short_list.ShortList.put.Goals as goal

pub returns : goal.returns
returns g c =
    let q = c.self.inside in
    let lt : c.args.i < q.count = omega (arith, ap length c.self.view_is, length-take-le q.count q.items (omega arith)) in
    record { put = rw (← c.self.view_is) (take-set-lt q.count q.items c.args.i c.args.x lt) }
