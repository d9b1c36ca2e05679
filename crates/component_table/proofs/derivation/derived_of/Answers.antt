use Rattle.component_table.proofs.Words.{◌∙◌, Some, refl, sym, ap, ap₂, natives_named, rule_of}
use Rattle.component_table.proofs.Deriving.{derives, derives-none}
use Rattle.component_table.proofs.derivation.derived_of.Goals as goal

pub returns-then-not-is_derived-clause-derived : goal.returns-then-not-is_derived-clause-derived
returns-then-not-is_derived-clause-derived c =
    sym (derives-none c.args.tables.now c.args.def c.in_ok-natives.natives c.rule_of-rule.result c.natives.ensures.kept
    (ap (natives_named c.args.tables.now) (sym c.natives.ensures.natives) ∙ sym c.natives_named.ensures.named ∙ c.in_ok-natives.was)
    (c.rule_of-rule.ensures ∙ ap₂ rule_of c.kind-kind.ensures.kind c.into_formula.ensures.formula)
    (λ made. cc (c.if-not-is_derived.ensures.1 made)))

pub returns-clause-derived : goal.returns-clause-derived
returns-clause-derived c =
    ap Some c.new.ensures ∙ sym (derives c.args.tables.now c.args.def c.in_ok-natives.natives c.rule_of-rule.result
    (ap (natives_named c.args.tables.now) (sym c.natives.ensures.natives) ∙ sym c.natives_named.ensures.named ∙ c.in_ok-natives.was)
    (c.rule_of-rule.ensures ∙ ap₂ rule_of c.kind-kind.ensures.kind c.into_formula.ensures.formula)
    (c.if-not-is_derived.ensures.0 refl))
