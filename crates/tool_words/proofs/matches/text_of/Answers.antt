use Rattle.tool_words.proofs.Words.{◌∙◌, first_value-rows, found_of}
use Rattle.tool_words.proofs.matches.text_of.Goals as goal

pub returns : goal.returns
returns c = c.get_str.ensures ∙ first_value-rows (found_of c.args.matches.now) c.args.id.now
