-- The open regions as they are kept.
use Rattle.std.specs.Prelude.{List, Vec, map}
use Rattle.std.specs.Global.{Global}
use Rattle.region_report.specs.Lines.{Open}
use Rattle.region_report.specs.declared.opened.OpenRegion.{OpenRegion}

-- an open region as the format has it
abbrev pub open_text : OpenRegion → Open
open_text o = record { name = o.name; begun = o.begun }

-- the open regions of one thread, the innermost last
abbrev pub stack_text : List OpenRegion → List Open
stack_text opens = map open_text opens

-- the open regions of all threads, from thread 0 on
abbrev pub stacks_text : List (Vec OpenRegion Global) → List (List Open)
stacks_text threads = map (λ opens. stack_text opens.items) threads
