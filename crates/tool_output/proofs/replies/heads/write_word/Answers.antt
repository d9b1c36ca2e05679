use Rattle.tool_output.proofs.Words.{drop, arith}
use Rattle.std.proofs.lemmas.Grind.{common_steps}
use Rattle.tool_output.proofs.Texts.{word_before}
use Rattle.tool_output.proofs.replies.heads.write_word.Goals as goal

pub returns-clause-text : goal.returns-clause-text
returns-clause-text c = λ h. word_before c.args.word.now (drop c.args.end c.args.bytes.now) _ (grind (arith, common_steps)) c.utf8.word h
