use Rattle.papi_tools.proofs.OwnReplyLemmas.{are_over_unit}
use Rattle.papi_tools.proofs.laws.unit_law.Goals as goal

pub returns : goal.returns
returns c =
    let fits = c.script_fits.ensures in
    are_over_unit c.args.catalog.now c.args.script.now fits.counters fits.presets fits.calls
