use Rattle.component_table.proofs.Words.{◌≡◌, ◌∙◌, ◌<◌, [], map, string_bytes, sym, ap, arith, length, get_or, get_or-map, length-map, shape_of}
use Rattle.component_table.proofs.Words.{names}
use Rattle.component_table.proofs.Deriving.{fit-more}
use Rattle.component_table.proofs.Naming.{named-all, named-fault, named-more}
use Rattle.component_table.proofs.derivation.natives_named.Goals as goal

pub returns-clause-named : goal.returns-clause-named
returns-clause-named c =
    sym (named-all c.args.tables.now (map string_bytes c.args.texts.now) c.loop-text.text-index c.loop-text.natives
    (omega (arith, length-map c.args.texts.now string_bytes)) c.loop-text.invariant.named)

pub loop-text-preserved : goal.loop-text-preserved
loop-text-preserved c =
    let texts = c.args.texts.now in
    let small : c.loop-text.text-index < length (map string_bytes texts) = omega (arith, length-map texts string_bytes) in
    let here : c.as_str.result.now ≡ get_or (map string_bytes texts) c.loop-text.text-index [] =
    c.as_str.ensures.value ∙ ap string_bytes c.text-item.is ∙ sym (get_or-map string_bytes texts c.loop-text.text-index c.text-item.result [] c.loop-text-test.true) in
    rw c.push.ensures.pushed (record {
      named = named-more c.args.tables.now (map string_bytes texts) c.loop-text.text-index c.loop-text.natives c.in-Ok.native small
          (ap (names c.args.tables.now) (sym here) ∙ sym c.in-Ok.ensures.names) c.loop-text.invariant.named;
      fit = fit-more (shape_of c.args.tables.now) c.loop-text.natives c.in-Ok.native c.loop-text.invariant.fit c.in-Ok.ensures.fits;
    })

pub returns-in-Err-clause-named : goal.returns-in-Err-clause-named
returns-in-Err-clause-named c =
    let texts = c.args.texts.now in
    let small : c.loop-text.text-index < length (map string_bytes texts) = omega (arith, length-map texts string_bytes) in
    let here : c.as_str.result.now ≡ get_or (map string_bytes texts) c.loop-text.text-index [] =
    c.as_str.ensures.value ∙ ap string_bytes c.text-item.is ∙ sym (get_or-map string_bytes texts c.loop-text.text-index c.text-item.result [] c.loop-text-test.true) in
    sym (named-fault c.args.tables.now (map string_bytes texts) c.loop-text.text-index c.loop-text.natives c.in-Err.field-0 small
    (ap (names c.args.tables.now) (sym here) ∙ sym c.in-Err.ensures.names) c.loop-text.invariant.named)
