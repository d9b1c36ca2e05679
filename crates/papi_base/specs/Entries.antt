-- What a list of named files holds.
use Rattle.std.specs.Prelude.{ℕ, List, map, Vec, String, string_bytes}
use Rattle.std.specs.declared.alloc.Global.{Global}
use Rattle.papi_base.specs.Outside.{Tape}
use Rattle.papi_base.specs.declared.outside.Ending.{Ending}
use Rattle.papi_base.specs.declared.outside.Ending.TheVariants.{End}

-- the tapes of files that end well or by a fault, under their names
abbrev pub entries_of : List (String Global × Vec ℕ Global × Ending) → List (List ℕ × Tape)
entries_of files = map (λ file. (string_bytes file.0, record { bytes = file.1.items; ending = file.2 })) files

-- the tapes of files that end well, under their names
abbrev pub sure_entries : List (String Global × Vec ℕ Global) → List (List ℕ × Tape)
sure_entries files = map (λ file. (string_bytes file.0, record { bytes = file.1.items; ending = End })) files
