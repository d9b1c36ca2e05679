-- the places that are left have moved down, and keep their counters
use Rattle.counter_alloc.proofs.Words.{◌≡◌, ℕ, ◌-◌, ◌<◌, take, arith, ap, ap₂, subst, ◌∙◌, remove, elements, MatchingView}
use Rattle.counter_alloc.proofs.Removal.{Closing, closing_all, kept_places}
use Rattle.counter_alloc.proofs.matching.Matching.remove.Goals as goal

pub returns : goal.returns
returns c =
    let within : c.args.place < c.self.inside.count = kept_places _ _ _ _ _ _ c.self.invariant (ap (λ kept. kept.allowed) c.self.view_is) c.requires in
    let few = c.self.invariant.few_places in
    let slots = c.self.invariant.allowed_slots in
    let counters = c.loop-i.invariant.counters ∙ ap (λ kept. kept.counters) c.self.view_is in
    let same = c.loop-i.invariant.count in
    let last : c.loop-i.i ≡ c.self.inside.count = let test = c.loop-i-test.false in let most = c.loop-i.auto.i-end (omega arith) in omega arith in
    let P : ℕ → Type 0 = λ n. Closing c.self.inside.allowed c.loop-i.self-inside.allowed c.args.place n in
    let places : take (c.loop-i.self-inside.count - 1) c.loop-i.self-inside.allowed ≡ remove c.args.self.now.allowed c.args.place =
    rw same (closing_all _ _ _ _ within (omega arith) (subst P last c.loop-i.invariant.places))
    ∙ ap (λ kept. remove kept.allowed c.args.place) c.self.view_is in
    ap₂ (λ n xs. let k : MatchingView = record { counters = n; allowed = xs } in k) counters places

pub invariant_of-self : goal.invariant_of-self
invariant_of-self c = grind (arith, elements)
