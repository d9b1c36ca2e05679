use Rattle.name_encoder.proofs.Words.{◌≡◌, drop, take, cut_at}
use Rattle.name_encoder.proofs.Cuts.{with_front}
use Rattle.name_encoder.proofs.parts.cut_at.Given as goal

abbrev pub invariant-loop-i : goal.invariant-loop-i
invariant-loop-i l = cut_at l.mark l.text ≡ with_front (take l.i l.text) (cut_at l.mark (drop l.i l.text))
