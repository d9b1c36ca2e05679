-- Arguments that are added to a command in turn are its arguments in order.
use Rattle.tool_words.proofs.Words.{◌≡◌, ◌∙◌, ◌&&◌, Bool, true, false, List, [], ◌∷◌, ◌++◌, is_some, map, not, ap, sym, refl, append-nil}
use Rattle.tool_words.proofs.Words.{append_assoc, list_all, both, AddsArg, AddsInTurn, is_empty, is_simple_arg, App, Rule, app_of, is_simple_and_free}
use Rattle.tool_words.proofs.Words.{rule_of, with_rule, Arg, Command, app_with}

abbrev pub with_rules : App → List Rule → App
with_rules app rules = record app { top = record app.top { rules = app.top.rules ++ rules } }

no_rules : (app : App) → app ≡ with_rules app []
no_rules app = ap (λ (rules : List Rule). record app { top = record app.top { rules = rules } }) (sym (append-nil app.top.rules))

one_more : (app : App) (r : Rule) (rules : List Rule) → with_rules (with_rule app r) rules ≡ with_rules app (r ∷ rules)
one_more app r rules = ap (λ (all : List Rule). record app { top = record app.top { rules = all } }) (append_assoc app.top.rules (r ∷ []) rules)

-- the rules of a command of which `clap` defines the matches are simple
pub simple_rules : (rules : List Rule) → is_simple_and_free (app_with rules) ≡ true → list_all (λ r. r.is_simple) rules ≡ true
simple_rules rules h = (both _ _ (both _ _ (both _ _ h).0).0).0

rest : (a b : Bool) → a && b ≡ true → b ≡ true
rest a b e = (both a b e).1

-- an argument that changes nothing about how words are read is not global
is_local : (a : Arg) → is_simple_arg a ≡ true → a.global ≡ false
is_local a h =
    is_false a.global (rest (not a.last) _ (rest (not a.require_equals) _ (rest (not a.allow_negative_numbers) _ (rest (not a.allow_hyphen_values) _
    (rest (not (is_some a.terminator)) _ (rest (not (is_some a.val_delim)) _
    (rest (is_empty a.groups.items) _ (rest (is_empty a.default_vals_ifs.items) _ (rest (is_empty a.overrides.items) _ h)))))))))
  where
    is_false : (b : Bool) → not b ≡ true → b ≡ false
    is_false false e = refl
    is_false true e = cc

pub added_in_turn : (old new : Command) (arguments : List Arg) → list_all (λ r. r.is_simple) (map rule_of arguments) ≡ true
    → AddsInTurn AddsArg old arguments new → app_of new ≡ with_rules (app_of old) (map rule_of arguments)
added_in_turn old new [] simple h = ap app_of (sym h) ∙ no_rules (app_of old)
added_in_turn old new (a ∷ more) simple h =
    let parts = both _ _ simple in
    added_in_turn h.0 new more parts.1 h.2
    ∙ (ap (λ (app : App). with_rules app (map rule_of more)) (h.1.shape (is_local a parts.0)) ∙ one_more (app_of old) (rule_of a) (map rule_of more))
