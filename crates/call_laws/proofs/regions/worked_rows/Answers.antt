use Rattle.std.specs.Prelude.{refl}
use Rattle.call_laws.proofs.Words.{digits, int_wrap, signed_sum, report_text, pairwise}
use Rattle.call_laws.proofs.regions.worked_rows.Goals as goal

pub returns-clause-natives : goal.returns-clause-natives
unfolding report_text pairwise int_wrap digits
returns-clause-natives c = refl

pub returns-clause-derived : goal.returns-clause-derived
unfolding report_text pairwise int_wrap digits signed_sum
returns-clause-derived c = refl
