use Rattle.component_table.proofs.Words.{◌∙◌, ◌++◌, ◌∷◌, [], sym, ap₂, map-append, shape_of, derived_from}
use Rattle.component_table.proofs.Deriving.{book-fits-more}
use Rattle.component_table.proofs.derivation.book_of.Goals as goal

pub loop-entry-preserved : goal.loop-entry-preserved
loop-entry-preserved c = record {
  book =
      c.in_ok-push.ensures.items
      ∙ ap₂ (λ book place. book ++ place ∷ []) c.loop-entry.invariant.book c.derived_from.ensures.derived
      ∙ sym (map-append (derived_from c.args.tables.now) c.loop-entry.yielded (c.in-Some.entry ∷ []));
  fits = rw c.in_ok-push.ensures.items (book-fits-more (shape_of c.args.tables.now) c.loop-entry.book.items c.derived_from.result c.loop-entry.invariant.fits c.derived_from.ensures.fits);
}
