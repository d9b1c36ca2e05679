use Rattle.tool_words.proofs.Words.{◌∙◌, List, ap, map, IfOk-weaker, App, Rule, rule_of}
use Rattle.tool_words.proofs.ArgumentLemmas.{added_in_turn, simple_rules, with_rules}
use Rattle.tool_words.proofs.matches.command_with.Goals as goal

pub returns : goal.returns
returns c =
    let given : List Rule = map rule_of c.args.arguments.items in
    IfOk-weaker c.args-2.result _ _ (λ command h. added_in_turn c.new.result command c.args.arguments.items (simple_rules given c.requires) h
    ∙ ap (λ (app : App). with_rules app given) c.new.ensures.app) c.args-2.ensures
