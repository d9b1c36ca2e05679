-- What a handle owns.
use Rattle.std.specs.Prelude.{Option, Some, None}
use base.Fml.{Fml, feq}
use denote.RawPtr.{Ptr, null_ptr}
use Rattle.std.specs.Box.Ownership.{box_owns}
use Rattle.std.specs.Global.{Global}
use Rattle.std_heap.specs.contracts.GlobalAllocator.TheImpl.{ghosts}
use Rattle.papi_calls.specs.contracts.library.Library.{the_row}

-- a handle is null if no library is open, and else owns the one that is
abbrev pub held : Global → Ptr → Option the_row.Denot → Fml
held alloc p None = feq Ptr p null_ptr
held alloc p (Some v) = box_owns (ghosts.dealloc_token alloc) the_row p v
