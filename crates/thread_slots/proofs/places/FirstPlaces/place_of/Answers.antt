use Rattle.thread_slots.proofs.Words.{ℕ, get_or, ap, arith, ◌∙◌}
use Rattle.thread_slots.proofs.Keyed.{found_from}
use Rattle.thread_slots.proofs.places.FirstPlaces.place_of.Goals as goal

pub returns-clause-place : goal.returns-clause-place
returns-clause-place c =
    let first = c.args.self.now.first in
    let at = c.from-from.ensures ∙ ap (λ (k : ℕ). get_or first k 0) c.key_of.ensures.value in
    let least = c.min.ensures in
    c.place_from.ensures.place ∙ found_from first c.args.natives.now c.args.n.now c.min.result c.requires (omega arith) (omega arith)
