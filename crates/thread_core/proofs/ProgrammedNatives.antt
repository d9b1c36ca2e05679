-- The natives of a running set on its component's unit.
use Rattle.thread_core.proofs.Words.{ℕ, period, suc, ◌≡◌, ◌==◌, false, arith, cond-false, ◌^◌, start, zero, ap, ◌-◌, ◌+◌, Book, CoreView, Account}
use Rattle.thread_core.proofs.Words.{Kept, List, CoreStands, slice_get, Some, at_place, running_registers, None, option_and_then, UnitView, ◌∙◌}
use Rattle.thread_core.proofs.Words.{Option, get_or, widths_at, threshold_among, register_at, count, refl, sym, owner_from, faces_of, option_map}
use Rattle.thread_core.proofs.Words.{unit_at, Register, registers_by, at_place-replicate, length, some-at, nat_tests, beginning, ◌%◌, reg, CountsOn}
use Rattle.thread_core.proofs.Words.{programmed, EachIsCounted, NoOtherIsProgrammed, NothingIsProgrammed, sum_is}
use Rattle.thread_core.proofs.Looking.{unit_on, fit_of, widths_on}
use Rattle.thread_core.proofs.RawRegisters.{register_on-counter, no_register-on}
use Rattle.thread_core.proofs.Weighing.{count_fits}
use Rattle.thread_core.proofs.Owners.{get-units, runner-none, runs_by}

period_is : (w t : ℕ) → period w (suc t) ≡ suc t
period_is w t = let above : (suc t == 0) ≡ false = grind (arith, nat_tests) in cond-false (suc t == 0) (2 ^ w) (suc t) above

start_is : (w t : ℕ) → beginning w t ≡ start w t
start_is w zero = omega arith
start_is w (suc t) = ap (λ (p : ℕ). 2 ^ w - p) (period_is w t)

reg_is : (w t k : ℕ) → beginning w t + k % period w t ≡ reg w t k
reg_is w zero k = omega arith
reg_is w (suc t) k = ap (λ (p : ℕ). 2 ^ w - p + k % p) (period_is w t)

-- what is programmed on a counter of it
programmed_is : (book : Book) (core : CoreView) (a : Account) (number comp c : ℕ) (s : Kept) (ws : List ℕ) → CoreStands book core a → CountsOn a number comp s → slice_get core.shape comp ≡ Some ws
    → programmed core comp c ≡ at_place (running_registers book ws a.past s None) c
programmed_is book core a number comp c s ws h on at_comp =
    ap (option_and_then (λ (u : UnitView). at_place u.registers c)) (unit_on book core a number comp s ws h on.under on.runs on.component at_comp)
    ∙ ap (λ (m : Option ℕ). at_place (running_registers book ws a.past s m) c) on.in_no_turns

pub each_is_counted : EachIsCounted
each_is_counted book core a number comp s i n c h on is =
    let fit = fit_of book core a number s h on.under in
    let ws = widths_on book core.shape s.set comp fit on.component in
    let w = get_or (widths_at core.shape s.set.component) c 0 in
    let t = threshold_among book n s.set.events s.set.thresholds in
    let r = register_at w n s.set.domain t (count a.past s n) in
    record {
      register = r;
      on_counter = programmed_is book core a number comp c s ws.0 h on ws.1 ∙ register_on-counter book core.shape a.past s ws.0 i c n fit on.in_no_turns ws.2 is.native is.counter;
      native = refl;
      threshold = refl;
      value = reg_is w t (count a.past s n);
      whole = ap (λ (x : ℕ). r.bank + (r.value - x)) (sym (start_is w t)) ∙ sum_is w n s.set.domain t (count a.past s n) (count_fits book core a s h n);
    }

pub no_other_is_programmed : NoOtherIsProgrammed
no_other_is_programmed book core a number comp s c h on other =
    let ws = widths_on book core.shape s.set comp (fit_of book core a number s h on.under) on.component in
    programmed_is book core a number comp c s ws.0 h on ws.1 ∙ no_register-on book a.past s ws.0 c other

pub nothing_is_programmed : NothingIsProgrammed
nothing_is_programmed book core a comp c h still = go (slice_get core.shape comp) refl (owner_from comp 0 (faces_of a.sets)) refl
  where
    unit : slice_get core.units comp ≡ option_map (unit_at book a.past a.sets comp) (slice_get core.shape comp)
    unit = ap (λ (us : List UnitView). slice_get us comp) h.units ∙ get-units book core.shape a.past a.sets comp

    of : Option UnitView → Option Register
    of = option_and_then (λ (u : UnitView). at_place u.registers c)

    go : (o : Option (List ℕ)) → slice_get core.shape comp ≡ o → (owner : Option ℕ) → owner_from comp 0 (faces_of a.sets) ≡ owner → programmed core comp c ≡ None
    go None e owner f = ap of (unit ∙ ap (option_map (unit_at book a.past a.sets comp)) e)
    go (Some ws) e None f =
        ap of (unit ∙ ap (option_map (unit_at book a.past a.sets comp)) e)
        ∙ ap (λ (s : Option Kept). at_place (registers_by book ws a.past s) c) (runner-none a.sets comp f)
        ∙ at_place-replicate (length ws) c
    go (Some ws) e (Some k) f = let r = runs_by a.sets comp k f in absurd (still k r.set (some-at a.sets k r.set r.at) r.running r.component)
