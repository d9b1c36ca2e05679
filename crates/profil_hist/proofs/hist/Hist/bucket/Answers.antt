use Rattle.profil_hist.proofs.Words.{◌∙◌, Option, ℕ, ap, is_some, rows_text, HistText, has_bucket}
use Rattle.profil_hist.proofs.Fresh.{bucket-there}
use Rattle.profil_hist.proofs.hist.Hist.bucket.Goals as goal

pub returns-clause-there : goal.returns-clause-there
returns-clause-there c =
    ap (λ (o : Option ℕ). is_some o) (rw c.as_slice.ensures.value at c.bucket_in.ensures)
    ∙ bucket-there c.self.inside.map (rows_text c.self.inside.rows.items) c.args.range c.args.i c.self.invariant.0.shape
    ∙ ap (λ (h : HistText). has_bucket h.map c.args.range c.args.i) c.self.view_is
