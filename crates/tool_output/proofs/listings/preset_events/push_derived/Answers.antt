use Rattle.tool_output.proofs.Words.{◌∙◌, ◌∷◌, ◌++◌, [], ap, codes, string_bytes, kind_of, both, kind_text, Text, formula_line, native_lines}
use Rattle.tool_output.proofs.Words.{type_line}
use Rattle.tool_output.proofs.listings.preset_events.push_derived.Goals as goal

pub returns : goal.returns
returns c =
    let start = string_bytes c.args.text.now in
    let first = string_bytes c.writeln.new.self in
    let second = string_bytes c.push_formula.new.text in
    let rule = c.args.derived.now.rule in
    let tables = c.args.tables.now in
    both start first _ (codes "Available: Yes\n" ++ type_line rule) (formula_line rule ++ native_lines tables c.args.derived.now.natives)
    (c.in_ok-writeln.ensures.bytes
    ∙ ap (λ (t : Text). start ++ (codes "Available: Yes\nDerived: " ++ (t ++ 10 ∷ []))) (c.kind_text-derived_type.ensures ∙ ap kind_text (c.kind_of.ensures.kind ∙ ap kind_of c.rule.ensures.rule)))
    (both first second _ (formula_line rule) (native_lines tables c.args.derived.now.natives) (c.in_ok-push_formula.ensures ∙ ap (λ r. first ++ formula_line r) c.rule-2.ensures.rule)
    (c.in_ok-push_natives.ensures ∙ ap (λ ns. second ++ native_lines tables ns) c.natives.ensures.natives))
