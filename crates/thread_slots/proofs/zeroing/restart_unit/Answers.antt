use Rattle.thread_slots.proofs.Words.{◌≡◌, ap, get_or, set, slice_get-get_or, sym, ◌∙◌, Some}
use Rattle.thread_slots.proofs.Restarting.{restarted}
use Rattle.thread_slots.proofs.zeroing.restart_unit.Goals as goal

pub returns-in-Some : goal.returns-in-Some
returns-in-Some c pins h =
    let units = c.args.units.now in
    let comp = c.in-Some.comp in
    let unit = get_or units comp c.index-units-comp.result in
    let is : c.args.set.now.rest.component ≡ Some comp = sym c.component.ensures ∙ c.in-Some.is in
    let there = slice_get-get_or units comp c.index-units-comp.result (h.on_unit.has_unit comp is) in
    ap (set units comp) c.restart.ensures ∙ restarted units c.args.set.now.rest.component c.args.set.now.rest.domain pins comp unit is there h
