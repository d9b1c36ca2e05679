use Rattle.call_laws.proofs.Spanned.{spans_by_position}
use Rattle.call_laws.proofs.regions.span_law.Goals as goal

pub returns : goal.returns
returns c = spans_by_position
