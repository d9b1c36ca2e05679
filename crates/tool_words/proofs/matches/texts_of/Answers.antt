use Rattle.tool_words.proofs.Words.{◌∙◌, raw_values-rows, found_of}
use Rattle.tool_words.proofs.matches.texts_of.Goals as goal

pub returns : goal.returns
returns c = c.get_strs.ensures ∙ raw_values-rows (found_of c.args.matches.now) c.args.id.now
