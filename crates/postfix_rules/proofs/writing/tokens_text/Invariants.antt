use Rattle.postfix_rules.proofs.Words.{◌≡◌, ◌++◌, drop, string_bytes, formula_text}
use Rattle.postfix_rules.proofs.writing.tokens_text.Given as goal

abbrev pub invariant-loop-token : goal.invariant-loop-token
invariant-loop-token l = string_bytes l.text ++ formula_text (drop l.token-index l.tokens) ≡ formula_text l.tokens
