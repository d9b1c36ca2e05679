use Rattle.component_table.proofs.Words.{◌≡◌, BookFits, shape_of, book_of}
use Rattle.component_table.proofs.derivation.book_of.Given as goal

abbrev pub invariant-loop-entry : goal.invariant-loop-entry
invariant-loop-entry l = record { book : l.book.items ≡ book_of l.tables l.yielded; fits : BookFits (shape_of l.tables) l.book.items }
