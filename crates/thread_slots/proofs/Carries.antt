-- Which pins' counters carry.
use Rattle.thread_slots.proofs.Words.{◌≡◌, ℕ, ◌+◌, ◌≤◌, Bool, false, List, [], ◌∷◌, length, get_or, refl, ap, ◌∙◌, Option, Some, None, slice_get}
use Rattle.thread_slots.proofs.Words.{◌==◌, if◌then◌else◌, nat_lt, cond-false, Occ, Native, Domain, weight_of, AreWidths, weight_of-le, Register}
use Rattle.thread_slots.proofs.Words.{moved_place, register_at, added, Pin, programs, ArePinned, ◌/◌, true, bit_at, bit_at-zero, all_carries, bits_of}
use Rattle.thread_slots.proofs.Words.{carries, period, bit_at-bits_of, carries_at, carried_from}
use Rattle.thread_slots.proofs.Programs.{programs-at, length-programs}

bit_test : (b : Bool) → ((if b then 1 else 0) == 1) ≡ b
bit_test true = refl
bit_test false = refl

-- the bit of a pin's counter says that its register carried
pub pin_carries : (before : Option Occ) (o : Occ) (ws : List ℕ) (d : Domain) (counts : Native → ℕ) (pins : List Pin) (rs : List (Option Register)) (k : ℕ) (p : Pin)
    → ArePinned ws pins → length rs ≡ length ws → slice_get pins k ≡ Some p
    → (bit_at (bits_of (all_carries before o ws (programs ws d counts pins rs))) p.counter == 1) ≡ carries (get_or ws p.counter 0) (weight_of p.native d before o) (register_at (get_or ws p.counter 0) p.native d p.threshold (counts p.native))
pin_carries before o ws d counts pins rs k p h e g =
    let regs = programs ws d counts pins rs in
    let at = programs-at ws d counts pins rs k p h e g in
    ap (λ (x : ℕ). x == 1) (bit_at-bits_of (all_carries before o ws regs) p.counter)
    ∙ bit_test (get_or (all_carries before o ws regs) p.counter false)
    ∙ carries_at before o ws regs p.counter (length-programs ws d counts pins rs ∙ e)
    ∙ ap (λ r. (moved_place before o (get_or ws p.counter 0) r).carried) at

-- what it says of a carry, pin by pin
pub record AreTold (before : Option Occ) (o : Occ) (ws : List ℕ) (d : Domain) (counts : Native → ℕ) (carry : ℕ) (pins : List Pin) : Type 0 where
  pub each : (k : ℕ) (p : Pin) → slice_get pins k ≡ Some p → (bit_at carry p.counter == 1) ≡ carries (get_or ws p.counter 0) (weight_of p.native d before o) (register_at (get_or ws p.counter 0) p.native d p.threshold (counts p.native))

-- a carry is a passing
pub pin_passes : (before : Option Occ) (o : Occ) (ws : List ℕ) (d : Domain) (counts : Native → ℕ) (carry : ℕ) (pins : List Pin) (k : ℕ) (p : Pin)
    → AreWidths ws → ArePinned ws pins → o.amount ≤ 255 → AreTold before o ws d counts carry pins → slice_get pins k ≡ Some p
    → (bit_at carry p.counter == 1) ≡ nat_lt (counts p.native / period (get_or ws p.counter 0) p.threshold) ((counts p.native + weight_of p.native d before o) / period (get_or ws p.counter 0) p.threshold)
pin_passes before o ws d counts carry pins k p widths h small told g =
    let a = added (get_or ws p.counter 0) p.native d p.threshold (counts p.native) (weight_of p.native d before o) (widths.low p.counter (h.exist k p g)) (h.fit k p g) (weight_of-le p.native d before o small) in
    told.each k p g ∙ a.carried

-- if no counter carries nothing is passed
pub passed_none : (index carry : ℕ) (counters : List (Option ℕ)) → carry ≡ 0 → carried_from index carry counters ≡ []
passed_none index carry [] none = refl
passed_none index carry (None ∷ counters) none = passed_none (index + 1) carry counters none
passed_none index carry (Some c ∷ counters) none =
    let stays : (bit_at carry c == 1) ≡ false = ap (λ (x : ℕ). bit_at x c == 1) none ∙ ap (λ (x : ℕ). x == 1) (bit_at-zero c) in
    cond-false (bit_at carry c == 1) (index ∷ carried_from (index + 1) carry counters) (carried_from (index + 1) carry counters) stays ∙ passed_none (index + 1) carry counters none
