use Rattle.component_table.proofs.Words.{All, map, string_bytes, Fits, shape_of}
use Rattle.component_table.proofs.Naming.{Named}
use Rattle.component_table.proofs.derivation.natives_named.Given as goal

abbrev pub invariant-loop-text : goal.invariant-loop-text
invariant-loop-text l = record { named : Named l.tables (map string_bytes l.texts) l.text-index l.natives; fit : All (Fits (shape_of l.tables)) l.natives }
