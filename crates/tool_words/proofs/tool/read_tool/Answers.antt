use Rattle.tool_words.proofs.Words.{◌≡◌, ◌∙◌, Err, List, ap, map, rules, string_bytes, Rule, Text, app_of, found_of, is_simple_and_free, rows_of}
use Rattle.tool_words.proofs.Words.{rule, app_with, Argument}
use Rattle.tool_words.proofs.FormLemmas.{answers_fault, answers_matches}
use Rattle.tool_words.proofs.tool.read_tool.Goals as goal

pub command_with-requires : goal.command_with-requires
command_with-requires g c =
    ap (λ (rules : List Rule). is_simple_and_free (app_with rules)) (c.in_ok-arguments.ensures ∙ ap (λ (arguments : List Argument). map rule arguments) c.arguments.ensures)
    ∙ g.T.ToolWords.form.defined

pub matches_in-requires : goal.matches_in-requires
matches_in-requires g c =
    ap is_simple_and_free (c.in_ok-command.ensures ∙ ap app_with (c.in_ok-arguments.ensures ∙ ap (λ (arguments : List Argument). map rule arguments) c.arguments.ensures))
    ∙ g.T.ToolWords.form.defined

pub returns-in_err-matches : goal.returns-in_err-matches
returns-in_err-matches g c =
    let words : List Text = map string_bytes c.args.words.now in
    let same : c.from_residual-in_err-matches.result ≡ Err c.in_err-matches.field-0.0 = search rules in
    rw same (answers_fault g.T.ToolWords.form (app_of c.in_ok-command.command) words _
    (c.in_ok-command.ensures ∙ ap app_with (c.in_ok-arguments.ensures ∙ ap (λ (arguments : List Argument). map rule arguments) c.arguments.ensures)) c.in_err-matches.ensures)

pub returns : goal.returns
returns g c =
    let words : List Text = map string_bytes c.args.words.now in
    answers_matches g.T.ToolWords.form (app_of c.in_ok-command.command) words (rows_of (found_of c.in_ok-matches.matches)) _
    (c.in_ok-command.ensures ∙ ap app_with (c.in_ok-arguments.ensures ∙ ap (λ (arguments : List Argument). map rule arguments) c.arguments.ensures)) c.in_ok-matches.ensures c.asked_by.ensures
