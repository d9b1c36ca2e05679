use Rattle.event_sets.proofs.Words.{◌≡◌, false, ◌==◌, refl, sym, ◌∙◌, arith, nat_lt, nat_tests, is_bad_slice}
use Rattle.event_sets.proofs.Kept.{sliced_sound}
use Rattle.event_sets.proofs.event_set.EventSet.set_multiplex.Goals as goal

pub invariant_of-self : goal.invariant_of-self
invariant_of-self c =
    let some : (c.args.slice == 0) ≡ false = grind (arith, nat_tests, c.if-slice-eq0.false) in
    let short : nat_lt 1000000 c.args.slice ≡ false = grind (arith, nat_tests, c.if-slice-gt-LONGEST_SLICE.false) in
    let good : is_bad_slice c.args.slice ≡ false = rw (some, short) refl in
    let matched = c.self.invariant.1 in
    (sliced_sound c.args.slice _ good (sym c.is_armed.ensures ∙ c.if-is_armed.false) c.self.invariant.0, record { counters = matched.counters; natives = λ unshared. cc })
