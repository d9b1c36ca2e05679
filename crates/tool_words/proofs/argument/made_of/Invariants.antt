use Rattle.tool_words.proofs.Words.{◌≡◌, map, take, rule_of, rule}
use Rattle.tool_words.proofs.argument.made_of.Given as goal

abbrev pub invariant-loop-argument : goal.invariant-loop-argument
invariant-loop-argument l = map rule_of l.made.items ≡ map rule (take l.argument-index l.arguments)
