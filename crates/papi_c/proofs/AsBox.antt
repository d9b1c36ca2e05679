-- The handle and its parts own what a box at the same types owns.
use Rattle.papi_c.proofs.Words.{impl, tnil, dnil, [], Slot, plain, Bx, ghosts, dict}
use Rattle.std_heap.specs.contracts.Global as Heap
use Rattle.std_heap.proofs.Global.TheLaws as heap
use Rattle.papi_calls.specs.contracts.library.Library as Library
use Rattle.papi_calls.proofs.library.Library.TheLaws as library
use Rattle.papi_c.specs.contracts.parts.Parts as Parts
use Rattle.papi_c.specs.contracts.handle.Handle as Handle

abbrev pub E : Bx
E = record { row = Library.the_row; laws = library.the_row_laws; al = record { row = Heap.the_row; laws = heap.the_row_laws; g = ghosts; d = dict; drops = impl [] tnil dnil } }

abbrev pub FromParts : Slot 0
FromParts = plain (λ _. Parts.the_row Library.the_row Heap.the_row ghosts)

abbrev pub FromHandle : Slot 0
FromHandle = plain (λ _. Handle.the_row)
