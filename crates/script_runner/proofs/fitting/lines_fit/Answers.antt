use Rattle.script_runner.proofs.Words.{◌∙◌, ◌++◌, ◌∷◌, List, [], ap, sym, subst, take, All, take_all, take_more, All-map, All-push, CatalogView}
use Rattle.script_runner.proofs.Words.{ScriptLine, IsGoodAsk, asked_of, line_of, lines_of, Line}
use Rattle.script_runner.proofs.fitting.lines_fit.Goals as goal

abbrev Fit : CatalogView → ScriptLine → Type 0
Fit catalog l = IsGoodAsk catalog (asked_of catalog l.call)

-- the lines that fit, looked up
all_looked_up : (catalog : CatalogView) (script : List ScriptLine) → All (Fit catalog) script → All (λ l. IsGoodAsk catalog l.asked) (lines_of catalog script)
unfolding lines_of
all_looked_up catalog script h = All-map (λ (l : Line). IsGoodAsk catalog l.asked) (line_of catalog) script h

pub loop-line-preserved : goal.loop-line-preserved
loop-line-preserved c =
    let catalog = c.args.catalog.now in
    let items : List ScriptLine = c.lines-line-items.result.now in
    let i = c.loop-line.line-index in
    let l : ScriptLine = c.line-item.result in
    subst (All (Fit catalog)) (sym (take_more items i l c.loop-line-test.true ∙ ap (λ k. take i items ++ k ∷ []) (sym c.line-item.is)))
    (All-push (Fit catalog) (take i items) l c.loop-line.invariant (subst (IsGoodAsk catalog) c.asked_of-asked.ensures.asked c.asked_of-asked.ensures.good))

pub returns : goal.returns
returns c =
    let catalog = c.args.catalog.now in
    let items : List ScriptLine = c.lines-line-items.result.now in
    all_looked_up catalog c.args.script.now
    (subst (All (Fit catalog)) (take_all c.loop-line.line-index items c.loop-line-test.false ∙ c.lines-line-items.ensures.lines) c.loop-line.invariant)
