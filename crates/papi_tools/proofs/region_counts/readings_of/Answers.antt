use Rattle.papi_tools.proofs.Words.{rules, sym, get_or_from_slice_get}
use Rattle.papi_tools.proofs.RegionLemmas.{reading_more}
use Rattle.papi_tools.proofs.region_counts.readings_of.Goals as goal

pub loop-i-preserved : goal.loop-i-preserved
loop-i-preserved c =
    reading_more c.args.lines.now c.loop-i.i c.at.result _ _ (search rules) (sym (get_or_from_slice_get c.args.lines.now c.loop-i.i c.at.result c.at.result c.at.ensures.line)) c.in_ok-push_reading.ensures c.loop-i.invariant
