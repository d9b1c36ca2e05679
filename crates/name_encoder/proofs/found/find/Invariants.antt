use Rattle.name_encoder.proofs.Words.{◌≡◌, drop, found_from, parts_split}
use Rattle.name_encoder.proofs.found.find.Given as goal

abbrev pub invariant-loop-comp : goal.invariant-loop-comp
invariant-loop-comp l = found_from (parts_split l.parts) 0 l.tables ≡ found_from (parts_split l.parts) l.comp (drop l.comp l.tables)
