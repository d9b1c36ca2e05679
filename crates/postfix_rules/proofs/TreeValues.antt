-- The value of tokens is that of every tree that they spell.
use Rattle.postfix_rules.proofs.Words.{◌∙◌, List, ap, Token, TreesValued, formula_value, top_value}
use Rattle.postfix_rules.proofs.Piles.{tree-made}

pub trees_valued : TreesValued
trees_valued counts tokens tree spells = ap (λ (ts : List Token). formula_value counts ts) spells ∙ ap (top_value counts) (tree-made tree)
