use Rattle.preset_csv.proofs.Words.{◌≡◌, ◌∙◌, ◌<◌, ◌≤◌, ◌∷◌, ◌++◌, [], List, codes, get_or, length, sym, ap, subst, Text, ReadsBack, Entry}
use Rattle.preset_csv.proofs.BackWhole.{reads-back}
use Rattle.preset_csv.proofs.WrittenParts.{begun, ended, one-more}
use Rattle.preset_csv.proofs.writing.write_presets.Goals as goal

pub loop-i-init : goal.loop-i-init
loop-i-init c = begun c.args.t.now c.in_ok-text.text.items (c.in_ok-text.ensures ∙ ap (λ (n : Text). (codes "CPU" ++ (44 ∷ n)) ++ (10 ∷ [])) c.cpu.ensures.cpu)

pub loop-i-preserved : goal.loop-i-preserved
loop-i-preserved c =
    let rows = c.rows-rows.ensures.rows in
    let lt : c.loop-i.i < length c.args.t.now.rows = subst (λ (es : List Entry). c.loop-i.i < length es) rows c.loop-i-test.true in
    let is = subst (λ (es : List Entry). c.index-rows-i.result ≡ get_or es c.loop-i.i c.index-rows-i.result) rows c.index-rows-i.is in
    one-more c.args.t.now c.loop-i.i c.preset_symbol.result.now c.index-rows-i.result _ _ c.rows-rows.ensures.kept.all lt c.preset_symbol.ensures.symbol is
    c.in_ok-put_entry.ensures c.loop-i.invariant

pub returns-clause-text : goal.returns-clause-text
returns-clause-text c =
    let le : length c.args.t.now.rows ≤ c.loop-i.i = subst (λ (es : List Entry). length es ≤ c.loop-i.i) c.rows-rows.ensures.rows c.loop-i-test.false in
    ended c.args.t.now c.loop-i.i _ c.rows-rows.ensures.kept.all le c.loop-i.invariant

pub returns-clause-back : goal.returns-clause-back
returns-clause-back c =
    let le : length c.args.t.now.rows ≤ c.loop-i.i = subst (λ (es : List Entry). length es ≤ c.loop-i.i) c.rows-rows.ensures.rows c.loop-i-test.false in
    subst (λ (bytes : Text). ReadsBack bytes c.args.t.now) (sym (ended c.args.t.now c.loop-i.i _ c.rows-rows.ensures.kept.all le c.loop-i.invariant)) (reads-back c.args.t.now c.rows-rows.ensures.kept)
