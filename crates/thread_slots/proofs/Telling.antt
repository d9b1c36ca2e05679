-- The numbers that are shown are those of the account.
use Rattle.thread_slots.proofs.Words.{◌≡◌, ℕ, suc, List, [], ◌∷◌, length, get_or, map, refl, ap, ap₂, sym, ◌∙◌, arith, Option, Some, slice_get}
use Rattle.thread_slots.proofs.Words.{option_map_or, Native, Domain, Occ, Register, at_place, count_on, register_at, active, estimate, Book, AtRest}
use Rattle.thread_slots.proofs.Words.{Pin, pins_from, Slot, pin_numbers, turn_numbers, option_and_then, UnitView, whole, exact_is, Turns}
use Rattle.thread_slots.proofs.Words.{weight_in_turn, Kept, weighed, estimated_in, total, numbers_in, numbers_shown, unit_numbers, turned}
use Rattle.std.specs.Prelude.{◌^◌, ◌<◌}
use Rattle.thread_slots.specs.declared.slot.Counting.TheVariants as counting
use Rattle.thread_slots.proofs.Lists.{map_same_on}

-- the counts on the pins' counters, if they fit 64 bits
pub pins_show : (unit : UnitView) (d : Domain) (counts : Native → ℕ) (pins : List Pin) → ((n : Native) → counts n < 2 ^ 64)
    → ((k : ℕ) (p : Pin) → slice_get pins k ≡ Some p → at_place unit.registers p.counter ≡ Some (register_at (get_or unit.widths p.counter 0) p.native d p.threshold (counts p.native)))
    → pin_numbers unit pins ≡ map (λ p. counts p.native) pins
pins_show unit d counts pins fits h = map_same_on (λ (p : Pin). count_on unit p.counter) (λ (p : Pin). counts p.native) pins (λ k p e.
    let w = get_or unit.widths p.counter 0 in
    ap (λ (r : Option Register). option_map_or (whole w) r 0) (h k p e) ∙ exact_is w p.native d p.threshold (counts p.native) (fits p.native))

-- one pin for each native
pub pins_natives : (book : Book) (s : AtRest) (ns : List Native) (cs : List ℕ) (counts : Native → ℕ) → length cs ≡ length ns → map (λ p. counts p.native) (pins_from book s ns cs) ≡ map counts ns
pins_natives book s [] cs counts e = refl
pins_natives book s (n ∷ ns) [] counts e = absurd (omega arith)
pins_natives book s (n ∷ ns) (c ∷ cs) counts e = ap (λ xs. counts n ∷ xs) (pins_natives book s ns cs counts (omega arith))

-- the estimates of the counts in turns
pub turns_show : (past : List Occ) (s : Kept) (t u : Turns) (group : Native → ℕ) (ns : List Native) (gs : List ℕ) → ((g : ℕ) → active t g (total past s) ≡ active u g (total past s)) → length gs ≡ length ns → ((i : ℕ) (n : Native) → slice_get ns i ≡ Some n → get_or gs i 0 ≡ group n)
    → turn_numbers t (total past s) gs (turned u past s ns gs) ≡ map (λ n. estimated_in past s u (group n) n) ns
turns_show past s t u group [] [] same e h = refl
turns_show past s t u group [] (g ∷ gs) same e h = absurd (omega arith)
turns_show past s t u group (n ∷ ns) [] same e h = absurd (omega arith)
turns_show past s t u group (n ∷ ns) (g ∷ gs) same e h =
    let is : g ≡ group n = h 0 n refl in
    ap₂ ◌∷◌ (ap (λ (a : ℕ). estimate (weighed (weight_in_turn u g n s.set.domain) past s) (total past s) a) (same g) ∙ ap (λ (k : ℕ). estimated_in past s u k n) is)
    (turns_show past s t u group ns gs same (omega arith) (λ i m f. h (suc i) m f))

-- the counts of a set on its unit are what is shown
pub shown_on : (units : List UnitView) (slot : Slot) (time comp : ℕ) (unit : UnitView) (pins : List Pin) (armed : List (Option ℕ)) (places : List ℕ)
    → slot.counting ≡ counting.OnUnit pins armed places → slot.set.rest.component ≡ Some comp → slice_get units comp ≡ Some unit
    → pin_numbers unit pins ≡ numbers_shown units time slot
shown_on units slot time comp unit pins armed places is on at = sym (
    ap (numbers_in units time slot) is
    ∙ ap (λ (c : Option ℕ). unit_numbers (option_and_then (slice_get units) c) pins) on
    ∙ ap (λ (u : Option UnitView). unit_numbers u pins) at)
