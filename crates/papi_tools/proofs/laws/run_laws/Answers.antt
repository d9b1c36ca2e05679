use Rattle.papi_tools.proofs.KeptLemmas.{scripts_are_kept}
use Rattle.papi_tools.proofs.OwnReplyLemmas.{notes_are_own, replies_are_own}
use Rattle.papi_tools.proofs.OwnRunLemmas.{runs_are_own}
use Rattle.papi_tools.proofs.laws.run_laws.Goals as goal

pub returns : goal.returns
returns c = record { replies = replies_are_own; notes = notes_are_own; kept = scripts_are_kept; runs = runs_are_own }
