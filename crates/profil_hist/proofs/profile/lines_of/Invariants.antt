use Rattle.profil_hist.proofs.Words.{◌≡◌, string_bytes, flat_map, range_with_len, lines_at}
use Rattle.profil_hist.proofs.profile.lines_of.Given as goal

abbrev pub invariant-loop-k : goal.invariant-loop-k
invariant-loop-k l = string_bytes l.text ≡ flat_map (lines_at l.hist) (range_with_len 0 l.k)
