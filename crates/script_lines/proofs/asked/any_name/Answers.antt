use Rattle.std.proofs.Common.{◌∙◌, List, ℕ, ap, refl, sym}
use Rattle.std.specs.Str.{bytes_eq}
use Rattle.std.proofs.lemmas.List.{drop_all, get_or-map}
use Rattle.call_type.specs.CallNames.{word_of}
use Rattle.call_type.specs.declared.call_name.CallName.TheVariants as name
use Rattle.call_type.specs.declared.call.Asked.TheVariants as asked
use Rattle.call_type.specs.declared.call.Call.TheVariants as call
use Rattle.script_lines.proofs.CallLemmas.{form_of-skips}
use Rattle.script_lines.specs.Calls.{CallRow, Nothing, call_rows, form_of, row}
use Rattle.script_lines.proofs.asked.any_name.Goals as goal

first : CallRow
first = row name.Register (Nothing (asked.Call call.Register))

pub loop-name-init : goal.loop-name-init
loop-name-init c = refl

pub loop-name-preserved : goal.loop-name-preserved
unfolding call_rows
loop-name-preserved c =
    let i = c.loop-name.name-index in
    let name = get_or-map (λ (r : CallRow). r.name) call_rows i first _ c.loop-name-test.true in
    let same = c.as_bytes.ensures.value ∙ c.call_word.ensures.word ∙ ap word_of name in
    c.loop-name.invariant ∙ form_of-skips c.args.word.now call_rows i first c.loop-name-test.true (ap (λ (w : List ℕ). bytes_eq w c.args.word.now) (sym same) ∙ sym c.eq.ensures ∙ c.if-eq.false)

pub returns-clause-unknown : goal.returns-clause-unknown
unfolding call_rows
returns-clause-unknown c = λ none. c.loop-name.invariant ∙ ap (form_of c.args.word.now) (drop_all _ call_rows c.loop-name-test.false)
