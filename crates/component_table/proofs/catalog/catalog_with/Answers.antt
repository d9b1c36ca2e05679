use Rattle.component_table.proofs.KeptEvents.{catalog-kept}
use Rattle.component_table.proofs.catalog.catalog_with.Goals as goal

pub invariant_of-result : goal.invariant_of-result
invariant_of-result c = catalog-kept c.args.tables c.in_ok-book.book c.args.x _ c.taken_apart.ensures.kept c.in_ok-book.ensures.fits c.in_ok-entries.ensures.names
