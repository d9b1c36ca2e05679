-- A unit on which a set is alone, when all registers begin again.
use Rattle.thread_slots.proofs.Words.{◌≡◌, ℕ, zero, suc, List, [], ◌∷◌, length, get_or, set, replicate, refl, ap, sym, ◌∙◌, arith, Option}
use Rattle.thread_slots.proofs.Words.{Some, None, slice_get, option_map, Native, Domain, AreWidths, Register, UnitView, Pin, programs, ArePinned}
use Rattle.thread_slots.proofs.Words.{all_begun_again, begun_again, begun_is, register_at, length-replicate, length-set, zeroed_at, zeroed_on, zeroed_unit, AreAlone, IsProgrammed}
use Rattle.thread_slots.proofs.Programs.{pinned-tail, programs-again}

again-set : (ws : List ℕ) (rs : List (Option Register)) (c : ℕ) (x : Option Register) → length rs ≡ length ws
    → all_begun_again ws (set rs c x) ≡ set (all_begun_again ws rs) c (option_map (begun_again (get_or ws c 0)) x)
again-set [] [] c x e = refl
again-set [] (r ∷ rs) c x e = absurd (omega arith)
again-set (w ∷ ws) [] c x e = refl
again-set (w ∷ ws) (r ∷ rs) zero x e = refl
again-set (w ∷ ws) (r ∷ rs) (suc c) x e = ap (λ ys. option_map (begun_again w) r ∷ ys) (again-set ws rs c x (omega arith))

again-none : (ws : List ℕ) → all_begun_again ws (replicate (length ws) None) ≡ replicate (length ws) None
again-none [] = refl
again-none (w ∷ ws) = ap (λ rs. None ∷ rs) (again-none ws)

-- each pin's register has the count 0
again-programs : (ws : List ℕ) (d : Domain) (counts : Native → ℕ) (pins : List Pin) (rs : List (Option Register)) → AreWidths ws → ArePinned ws pins → length rs ≡ length ws
    → all_begun_again ws (programs ws d counts pins rs) ≡ programs ws d (λ n. 0) pins (all_begun_again ws rs)
again-programs ws d counts [] rs widths h e = refl
again-programs ws d counts (p ∷ ps) rs widths h e =
    let w = get_or ws p.counter 0 in
    let r = register_at w p.native d p.threshold (counts p.native) in
    again-programs ws d counts ps (set rs p.counter (Some r)) widths (pinned-tail ws p ps h) (length-set rs p.counter (Some r) ∙ e)
    ∙ ap (programs ws d (λ n. 0) ps) (again-set ws rs p.counter (Some r) e
    ∙ ap (λ (x : Register). set (all_begun_again ws rs) p.counter (Some x)) (begun_is w p.native d p.threshold (widths.low p.counter (h.exist 0 p refl)) (h.fit 0 p refl)))

-- the unit is as if its pins had been programmed once more
again_is : (d : Domain) (pins : List Pin) (unit : UnitView) → AreWidths unit.widths → ArePinned unit.widths pins → IsProgrammed d pins unit
    → record unit { registers = all_begun_again unit.widths unit.registers } ≡ zeroed_unit d pins unit
again_is d pins unit widths h on =
    let ws = unit.widths in
    let none : List (Option Register) = replicate (length ws) None in
    ap (λ rs. record unit { registers = rs })
    (ap (all_begun_again ws) on.registers ∙ again-programs ws d on.counts pins none widths h (length-replicate (length ws) _)
    ∙ ap (programs ws d (λ n. 0) pins) (again-none ws)
    ∙ sym (programs-again ws d (λ n. 0) on.counts pins none h) ∙ ap (programs ws d (λ n. 0) pins) (sym on.registers))

pub restarted : (units : List UnitView) (component : Option ℕ) (d : Domain) (pins : List Pin) (comp : ℕ) (unit : UnitView) → component ≡ Some comp → slice_get units comp ≡ Some unit → AreAlone units component d pins
    → set units comp (record unit { registers = all_begun_again unit.widths unit.registers }) ≡ zeroed_on d pins units component
restarted units component d pins comp unit is there h =
    ap (set units comp) (again_is d pins unit (h.on_unit.widths comp unit is there) (h.on_unit.pinned comp unit is there) (h.programmed comp unit is there))
    ∙ sym (ap (zeroed_on d pins units) is ∙ ap (zeroed_at d pins units comp) there)
