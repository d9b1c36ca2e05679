use Rattle.profil_hist.proofs.Words.{map, ArePlacesOf, range_text}
use Rattle.profil_hist.proofs.placing.in_file_order.Given as goal

abbrev pub invariant-loop-range : goal.invariant-loop-range
invariant-loop-range l = ArePlacesOf (map range_text l.ranges) l.range l.places.items
