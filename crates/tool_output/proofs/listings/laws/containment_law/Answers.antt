use Rattle.tool_output.proofs.Containing.{decides}
use Rattle.tool_output.proofs.listings.laws.containment_law.Goals as goal

pub returns : goal.returns
returns c = λ part text. decides part text
