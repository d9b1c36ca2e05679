use Rattle.tool_output.proofs.Words.{same_from_decides, contains_text, stands_in}
use Rattle.tool_output.proofs.Containing.{decides}
use Rattle.tool_output.proofs.listings.native_lists.contains.Goals as goal

pub returns : goal.returns
returns c =
    same_from_decides c.contains.result (stands_in c.args.part.now c.args.name.now) (contains_text c.contains.result c.args.part.now c.args.name.now c.contains.ensures.cases) (decides c.args.part.now c.args.name.now)
