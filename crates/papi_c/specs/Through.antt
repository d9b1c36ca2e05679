-- Calls through a handle.
use Rattle.std.specs.Prelude.{Option, Some, None}
use Rattle.papi_calls.specs.Libraries.{LibraryView}

-- what is so of the library before and after if one is open, and of a shut handle, which stays shut
abbrev pub Through : Option LibraryView → Option LibraryView → (LibraryView → LibraryView → Type 0) → Type 0 → Type 0
Through (Some old) (Some new) Holds Shut = Holds old new
Through None None Holds Shut = Shut
Through old new Holds Shut = ⊥
