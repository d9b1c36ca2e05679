use Rattle.papi_tools.proofs.Words.{◌∙◌, ap, rules, sym, drop_all, get_or_from_slice_get, find, stops, values_at}
use Rattle.papi_tools.proofs.SoakLemmas.{found_here, sought_on}
use Rattle.papi_tools.proofs.soak_totals.stop_values.Goals as goal

pub loop-i-preserved : goal.loop-i-preserved
loop-i-preserved c =
    c.loop-i.invariant
    ∙ sought_on (stops c.args.thread) c.args.lines.now c.loop-i.i c.at-line.result (search rules) (sym (get_or_from_slice_get c.args.lines.now c.loop-i.i c.at-line.result c.at-line.result c.at-line.ensures.line)) (sym c.stops.ensures ∙ c.if-stops.false)

pub returns-then-stops : goal.returns-then-stops
returns-then-stops c =
    c.values_of.ensures
    ∙ sym (ap values_at (c.loop-i.invariant
    ∙ found_here (stops c.args.thread) c.args.lines.now c.loop-i.i c.at-line.result (search rules) (sym (get_or_from_slice_get c.args.lines.now c.loop-i.i c.at-line.result c.at-line.result c.at-line.ensures.line)) (sym c.stops.ensures ∙ c.if-stops.true)))

pub returns : goal.returns
returns c =
    c.new.ensures.empty ∙ sym (ap values_at (c.loop-i.invariant ∙ ap (find (stops c.args.thread)) (drop_all c.loop-i.i c.args.lines.now (search rules))))
