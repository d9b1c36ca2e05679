use Rattle.name_encoder.proofs.Words.{◌≡◌, ◌∙◌, None, sym, ap, rules, arith, not_given, found_text, parts_split}
use Rattle.std.specs.Prelude.{option_map}
use Rattle.name_encoder.proofs.Searching.{component-here, component-later, component-never}
use Rattle.name_encoder.proofs.Unnamed.{unnamed}
use Rattle.name_encoder.proofs.found.find.Goals as goal

pub returns-in-Some-clause-found : goal.returns-in-Some-clause-found
returns-in-Some-clause-found c = sym (c.loop-comp.invariant
    ∙ component-here (parts_split c.args.parts.now) c.args.tables.now c.loop-comp.comp (found_text c.in-Some.found) (omega arith)
    (sym (rw c.in-Some.is at c.found_at.ensures)))

pub loop-comp-preserved : goal.loop-comp-preserved
loop-comp-preserved c = c.loop-comp.invariant ∙ component-later (parts_split c.args.parts.now) c.args.tables.now c.loop-comp.comp (omega arith) (sym (rw c.in_default.is at c.found_at.ensures))

pub returns-clause-found : goal.returns-clause-found
returns-clause-found c = sym (c.loop-comp.invariant ∙ component-never (parts_split c.args.parts.now) c.args.tables.now c.loop-comp.comp (omega arith))

pub returns-in_err-name-clause-found : goal.returns-in_err-name-clause-found
returns-in_err-name-clause-found c =
    let none : c.from_residual.result ≡ None = search rules in
    ap (option_map found_text) none
    ∙ sym (unnamed (parts_split c.args.parts.now) 0 c.args.tables.now (not_given _ _ c.in_err-name.ensures) c.components-components.ensures.kept.each)
