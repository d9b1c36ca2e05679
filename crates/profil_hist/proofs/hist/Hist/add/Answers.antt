use Rattle.profil_hist.proofs.Words.{◌+◌, ◌<◌, ◌^◌, ◌∷◌, ◌++◌, [], List, sym, ap, subst, arith, RowText, rows_text, HistText, IsHist, IsHistogram}
use Rattle.profil_hist.proofs.Words.{hist_text}
use Rattle.profil_hist.proofs.Noted.{noted-counts, noted-kept, passed-counts, spotted-there}
use Rattle.profil_hist.proofs.hist.Hist.add.Goals as goal

pub add_at-requires-clause-there : goal.add_at-requires-clause-there
add_at-requires-clause-there c =
    spotted-there c.self.inside.map (rows_text c.self.inside.rows.items) c.args.pc c.in-Some.place c.self.invariant.0.shape c.in-Some.ensures

pub invariant_of-self : goal.invariant_of-self
invariant_of-self c =
    let old : HistText = hist_text c.self.inside.map (rows_text c.self.inside.rows.items) c.self.inside.outside c.self.inside.total in
    let room : c.self.inside.total < 2 ^ 63 = omega (arith, c.requires, ap (λ (h : HistText). h.total) c.self.view_is) in
    let P : List RowText → Type 0 = λ rows. IsHist (hist_text c.self.inside.map rows c.self.inside.outside (c.self.inside.total + 1)) in
    (subst P (sym c.add_at.ensures) (noted-kept old c.args.pc c.in-Some.place room c.self.invariant.0 c.in-Some.ensures), c.self.invariant.1)

pub returns-in-Some-clause-counts : goal.returns-in-Some-clause-counts
returns-in-Some-clause-counts c = λ pcs is.
    let old : HistText = hist_text c.self.inside.map (rows_text c.self.inside.rows.items) c.self.inside.outside c.self.inside.total in
    let before : IsHistogram old pcs = subst (λ (h : HistText). IsHistogram h pcs) (sym c.self.view_is) is in
    let P : List RowText → Type 0 = λ rows. IsHistogram (hist_text c.self.inside.map rows c.self.inside.outside (c.self.inside.total + 1)) (pcs ++ c.args.pc ∷ []) in
    subst P (sym c.add_at.ensures) (noted-counts old c.args.pc c.in-Some.place pcs c.self.invariant.0 c.in-Some.ensures before)

pub returns-in-None-clause-counts : goal.returns-in-None-clause-counts
returns-in-None-clause-counts c = λ pcs is.
    let old : HistText = hist_text c.self.inside.map (rows_text c.self.inside.rows.items) c.self.inside.outside c.self.inside.total in
    let before : IsHistogram old pcs = subst (λ (h : HistText). IsHistogram h pcs) (sym c.self.view_is) is in
    passed-counts old c.args.pc pcs c.in-None.ensures before
