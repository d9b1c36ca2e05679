-- A place taken out of the lists, the later ones moved down.
use Rattle.counter_alloc.proofs.Words.{◌≡◌, ℕ, ◌+◌, ◌-◌, ◌<◌, ◌≤◌, inl, inr, sym, ap, ◌∙◌, arith, List, length, get_or, take, length-take-le}
use Rattle.counter_alloc.proofs.Words.{get_or-take, remove, cases_lt, ext_get_or, length-remove, get_or-remove_below, get_or-remove_above, IsMatching}

-- the items after the place, below this index, have moved down by one
pub record Closing (old new : List ℕ) (place upto : ℕ) : Type 0 where
  pub slots : length new ≡ length old
  pub below : (k : ℕ) → k < place → get_or new k 0 ≡ get_or old k 0
  pub moved : (k : ℕ) → place ≤ k → k + 1 < upto → get_or new k 0 ≡ get_or old (k + 1) 0
  pub rest : (k : ℕ) → place ≤ k → upto ≤ k + 1 → get_or new k 0 ≡ get_or old k 0

pub closing_all : (old new : List ℕ) (place count : ℕ) → place < count → count ≤ length old → Closing old new place count
    → take (count - 1) new ≡ remove (take count old) place
closing_all old new place count within few closing =
    let slots = closing.slots in
    let left : length (take (count - 1) new) ≡ count - 1 = length-take-le (count - 1) new (omega arith) in
    let whole : length (take count old) ≡ count = length-take-le count old few in
    let right = length-remove (take count old) place (omega arith) in
    ext_get_or 0 _ _ (omega arith) (λ k below. get_or-take (count - 1) new k 0 (omega arith) ∙ elim (cases_lt k place) [
      | inl lt ↦ closing.below k lt ∙ sym (get_or-remove_below (take count old) place 0 k lt (omega arith) ∙ get_or-take count old k 0 (omega arith))
      | inr ge ↦ closing.moved k ge (omega arith) ∙ sym (get_or-remove_above (take count old) place 0 k ge (omega arith) ∙ get_or-take count old (k + 1) 0 (omega arith))
    ])

pub kept_places : (counters count place : ℕ) (kept allowed chosen : List ℕ) → IsMatching counters count allowed chosen → take count allowed ≡ kept
    → place < length kept → place < count
kept_places counters count place kept allowed chosen is view within =
    let few = is.few_places in
    let slots = is.allowed_slots in
    let same : length kept ≡ count = ap length (sym view) ∙ length-take-le count allowed (omega arith) in
    omega arith
