use Rattle.tool_output.proofs.Words.{arith, IsUtf8-from_ascii}
use Rattle.tool_output.proofs.replies.values.push_values.Goals as goal

pub push_from-requires-clause-text : goal.push_from-requires-clause-text
push_from-requires-clause-text c = IsUtf8-from_ascii _ (c.write_values-at.ensures.ascii (λ i. omega arith))
