use Rattle.preset_csv.proofs.Words.{map, string_bytes, fields_of}
use Rattle.preset_csv.proofs.FoundNatives.{Held}
use Rattle.preset_csv.proofs.natives.row_natives.Given as goal

abbrev pub invariant-loop-i : goal.invariant-loop-i
invariant-loop-i l = Held (fields_of l.row) l.first l.i l.count (map string_bytes l.natives.items)
