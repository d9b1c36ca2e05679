use Rattle.papi_tools.proofs.Words.{◌∙◌, ap, subst, AllFit, reading_values}
use Rattle.papi_tools.proofs.region_counts.said_of.Goals as goal

pub returns-clause-fit : goal.returns-clause-fit
returns-clause-fit c =
    subst AllFit (ap reading_values c.as_slice-read.ensures.value ∙ c.in_ok-readings.ensures) c.readings_fit.ensures
