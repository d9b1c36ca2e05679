-- An occurrence goes over the counters that it can move, lowest first: those that are left are as they were, and all others are
-- done. A counter that it cannot move is done from the beginning.
use Rattle.counter_unit.proofs.Words.{◌≡◌, ℕ, zero, suc, ◌+◌, ◌*◌, ◌%◌, ◌^◌, ◌<◌, ◌≤◌, ◌⊎◌, inl, inr, Bool, true, false, List, [], ◌∷◌, length, set}
use Rattle.counter_unit.proofs.Words.{get_or, refl, ap, sym, ◌∙◌, arith, Option, Some, None, bit_and, min, nat_le, ◌==◌, ◌&&◌, ◌||◌, not}
use Rattle.counter_unit.proofs.Words.{if◌then◌else◌, bit_at, bit_not, trailing_zeros, w32, cases_eq, cases_lt, cond-false, eq-eqb, lt-leb, ne_eqb}
use Rattle.counter_unit.proofs.Words.{get_or_past, get_or-set_same, get_or-set_other, length-set, ext_get_or, lt_of_le-ne, lt_of_le_of_lt, and_le_l}
use Rattle.counter_unit.proofs.Words.{bit_at-lt, bit_at-suc, bit_at-zero, bit_at_above, bit_at_and, bit_at_clear_same, bit_at_clear_other}
use Rattle.counter_unit.proofs.Words.{bit_at-trailing_zeros, same_from_bits, differ, weight_of, holds, share, Occ, Register, After, FitsWidth}
use Rattle.counter_unit.proofs.Words.{FitWidths, at_place, all_carries, all_moved, bits_of, carries, moved, moved_place, added, is_modified}
use Rattle.counter_unit.proofs.Words.{weight_at, AreAdmitted, ArePlain, admits, bit_of, has_code}
use Rattle.counter_unit.specs.declared.selects.Key.TheVariants as key
use Rattle.counter_unit.proofs.Bits.{bit_at-bits_of}
use Rattle.counter_unit.proofs.Places.{at_place-all_moved, length-all_moved}
use Rattle.counter_unit.proofs.Tables.{no_bit}

-- the lowest of the counters that are left, and the others
abbrev pub lowest : ℕ → ℕ
lowest left = trailing_zeros w32 left

abbrev pub others : ℕ → ℕ
others left = bit_and left (bit_not w32 (1 * 2 ^ lowest left % 2 ^ 32))

pub lowest_is : (left : ℕ) → 0 < left → left < 2 ^ 32 → (lowest left < 32) × (bit_at left (lowest left) ≡ 1)
lowest_is left some small = let h = bit_at-trailing_zeros w32 left some small in (h.0, h.1)

other_bit : (left k : ℕ) → 0 < left → left < 2 ^ 32 → (k ≡ lowest left → ⊥) → bit_at (others left) k ≡ bit_at left k
other_bit left k some small apart = elim (cases_lt k 32) [
  | inl below ↦ bit_at_clear_other w32 left (lowest left) (lowest_is left some small).0 k below apart
  | inr above ↦ bit_at_above (others left) 32 k (lt_of_le_of_lt (and_le_l left (bit_not w32 (1 * 2 ^ lowest left % 2 ^ 32))) small) above ∙ sym (bit_at_above left 32 k small above)
]

cleared : (left : ℕ) → 0 < left → left < 2 ^ 32 → bit_at (others left) (lowest left) ≡ 0
cleared left some small = bit_at_clear_same w32 left (lowest left) (lowest_is left some small).0

pub others-lt : (left : ℕ) → 0 < left → left < 2 ^ 32 → others left < left
others-lt left some small = lt_of_le-ne (and_le_l left (bit_not w32 (1 * 2 ^ lowest left % 2 ^ 32)))
    (λ same. no_bit (bit_at left (lowest left)) (lowest_is left some small).1 (sym (ap (λ n. bit_at n (lowest left)) same) ∙ cleared left some small))

-- nothing is added to a register that the occurrence cannot move
abbrev in_mode_by : Bool → Register → Bool
in_mode_by kernel r = if (r.native.mods.user || r.native.mods.kernel) then (if kernel then r.native.mods.kernel else r.native.mods.user) else (if kernel then share r.domain.0 2 else share r.domain.0 1)

coded : (kernel : Bool) (code : ℕ) (r : Register) → has_code (if kernel then key.Kernel else key.User) code r ≡ ((r.native.select == code) && in_mode_by kernel r)
coded true code r = refl
coded false code r = refl

unheld : (comp select umask mode reaches : Bool) → ((comp && (select && mode)) && umask) ≡ false → ((comp && select && umask && mode) && reaches) ≡ false
unheld false select umask mode reaches e = refl
unheld true false umask mode reaches e = refl
unheld true true false mode reaches e = refl
unheld true true true false reaches e = refl
unheld true true true true reaches e = absurd cc

by_bits : (r : Register) (o : Occ) → admits o (Some r) ≡ (((r.native.comp == o.comp) && ((r.native.select == o.select) && in_mode_by o.kernel r)) && ((r.native.umask == 0) || share r.native.umask o.umask))
by_bits r o = ap (λ b. ((r.native.comp == o.comp) && b) && ((r.native.umask == 0) || share r.native.umask o.umask)) (coded o.kernel o.select r)

pub weight_of_other : (r : Register) (before : Option Occ) (o : Occ) → admits o (Some r) ≡ false → weight_of r.native r.domain before o ≡ 0
weight_of_other r before o e = cond-false (holds r.native r.domain o) _ 0 (unheld _ (r.native.select == o.select) ((r.native.umask == 0) || share r.native.umask o.umask) (in_mode_by o.kernel r) _
    (sym (by_bits r o) ∙ e))

-- a register that is not modified counts the amount of each occurrence that can move it
neither : (a b : Bool) → (a || not b) ≡ false → (a ≡ false) × (b ≡ true)
neither true b e = absurd cc
neither false true e = (refl, refl)
neither false false e = absurd cc

plain_if : (comp select umask mode reaches : Bool) (amount : ℕ)
    → (if ((comp && select && umask && mode) && (true || reaches)) then amount else 0) ≡ (if ((comp && (select && mode)) && umask) then amount else 0)
plain_if false select umask mode reaches amount = refl
plain_if true false umask mode reaches amount = refl
plain_if true true false true reaches amount = refl
plain_if true true false false reaches amount = refl
plain_if true true true true reaches amount = refl
plain_if true true true false reaches amount = refl

pub weight_plain : (before : Option Occ) (o : Occ) (place : Option Register) → is_modified place ≡ false → weight_at before o place ≡ (if admits o place then o.amount else 0)
weight_plain before o None e = refl
weight_plain before o (Some r) e =
    let none = neither r.native.mods.edge (r.native.mods.cmask == 0) e in
    let umask = (r.native.umask == 0) || share r.native.umask o.umask in
    let plain : weight_at before o (Some r) ≡ (if (((r.native.comp == o.comp) && ((r.native.select == o.select) && in_mode_by o.kernel r)) && umask) then o.amount else 0) =
    rw (none.0, none.1) (plain_if (r.native.comp == o.comp) (r.native.select == o.select) umask (in_mode_by o.kernel r) (differ (nat_le r.native.mods.cmask o.amount) r.native.mods.invert) o.amount) in
    plain ∙ sym (ap (λ (b : Bool). if b then o.amount else 0) (by_bits r o))

abbrev after : ℕ → Register → ℕ → After
after w r more = record { place = Some (moved w more r); carried = carries w more r }

abbrev pub unchanged : Option Register → After
unchanged place = record { place = place; carried = false }

pub unmoved : (before : Option Occ) (o : Occ) (w : ℕ) (r : Option Register) → FitsWidth w r → admits o r ≡ false → moved_place before o w r ≡ unchanged r
unmoved before o w None sound other = refl
unmoved before o w (Some r) sound other = ap (after w r) (weight_of_other r before o other) ∙ still r sound.2 where
  still : (r : Register) → r.value < 2 ^ w → after w r 0 ≡ unchanged (Some r)
  still r below =
      let no : carries w 0 r ≡ false = lt-leb (2 ^ w) (r.value + 0) (omega arith) in
      let same : r.value + 0 ≡ r.value = omega arith in
      rw no (ap (λ v. unchanged (Some (record r { value = v }))) same)

-- a place moves by what the occurrence adds there
pub moved_is : (before : Option Occ) (o : Occ) (w : ℕ) (place : Option Register) → added w (weight_at before o place) place ≡ moved_place before o w place
moved_is before o w None = refl
moved_is before o w (Some r) = refl

-- the loop with these counters left, of which these are modified and all others add this amount, these places, and these carries
pub record Stepping (before : Option Occ) (o : Occ) (ws : List ℕ) (rs : List (Option Register)) (modified amount left : ℕ) (now : List (Option Register)) (carry : ℕ) : Type 0 where
  pub same_length : length now ≡ length ws
  pub within : (k : ℕ) → bit_at left k ≡ 1 → k < length ws
  pub adds : (k : ℕ) → bit_at left k ≡ 1 → bit_at modified k ≡ 0 → amount ≡ weight_at before o (at_place rs k)
  pub clear : (k : ℕ) → bit_at left k ≡ 1 → bit_at carry k ≡ 0
  pub waits : (k : ℕ) → bit_at left k ≡ 1 → at_place now k ≡ at_place rs k
  pub done : (k : ℕ) → bit_at left k ≡ 0 → at_place now k ≡ (moved_place before o (get_or ws k 0) (at_place rs k)).place
  pub carried : (k : ℕ) → k < 32 → bit_at left k ≡ 0 → bit_at carry k ≡ bit_of (moved_place before o (get_or ws k 0) (at_place rs k)).carried

sound_at : (ws : List ℕ) (rs : List (Option Register)) (k : ℕ) → FitWidths ws rs → FitsWidth (get_or ws k 0) (at_place rs k)
sound_at ws rs k h = elim (cases_lt k (length ws)) [
  | inl below ↦ h.each k below
  | inr past ↦ let e = h.same_length in rw (get_or_past rs k None (omega arith)) tt
]

pub bit_is : (a b : Bool) → bit_of a ≡ bit_of b → a ≡ b
bit_is true true h = refl
bit_is true false h = absurd (no_bit 0 (sym h) refl)
bit_is false true h = absurd (no_bit 0 h refl)
bit_is false false h = refl

-- what is looked at if the occurrence can move these counters
pub begins : (before : Option Occ) (o : Occ) (ws : List ℕ) (rs : List (Option Register)) (all modified : ℕ) → length ws ≤ 32 → all < 2 ^ 32 → FitWidths ws rs → AreAdmitted o rs all → ArePlain rs all modified
    → Stepping before o ws rs modified (if all == 0 then 0 else o.amount) (if all == 0 then min (length ws) 1 else all) rs 0
begins before o ws rs all modified few small sound admitted plain = go (cases_eq all 0) where
  below : (k : ℕ) → bit_at all k ≡ 1 → k < length ws
  below k is = elim (cases_lt k (length ws)) [
    | inl inside ↦ inside
    | inr past ↦ absurd (no_bit (bit_at all k) is (let e = sound.same_length in elim (cases_lt k 32) [
      | inl low ↦ admitted k low ∙ ap (λ r. bit_of (admits o r)) (get_or_past rs k None (omega arith))
      | inr high ↦ bit_at_above all 32 k small high
    ]))
  ]

  stays : (k : ℕ) → bit_at all k ≡ 0 → moved_place before o (get_or ws k 0) (at_place rs k) ≡ unchanged (at_place rs k)
  stays k isnt = unmoved before o (get_or ws k 0) (at_place rs k) (sound_at ws rs k sound) (elim (cases_lt k 32) [
    | inl low ↦ bit_is (admits o (at_place rs k)) false (sym (admitted k low) ∙ isnt)
    | inr high ↦ ap (admits o) (let e = sound.same_length in get_or_past rs k None (omega arith))
  ])

  beginning_with : (left amount : ℕ) → ((k : ℕ) → bit_at left k ≡ 1 → k < length ws) → ((k : ℕ) → bit_at left k ≡ 0 → bit_at all k ≡ 0)
      → ((k : ℕ) → bit_at left k ≡ 1 → bit_at modified k ≡ 0 → amount ≡ weight_at before o (at_place rs k)) → Stepping before o ws rs modified amount left rs 0
  beginning_with left amount within none adds = record {
    same_length = sound.same_length;
    within = within;
    adds = adds;
    clear = λ k is. bit_at-zero k;
    waits = λ k is. refl;
    done = λ k isnt. sym (ap (λ (a : After). a.place) (stays k (none k isnt)));
    carried = λ k low isnt. bit_at-zero k ∙ sym (ap (λ (a : After). bit_of a.carried) (stays k (none k isnt)));
  }

  first_only : (n k : ℕ) → bit_at (min n 1) k ≡ 1 → k < n
  first_only zero k is = absurd (no_bit (bit_at 0 k) is (bit_at-zero k))
  first_only (suc n) k is = one k (let e : min (suc n) 1 ≡ 1 = omega arith in ap (λ m. bit_at m k) (sym e) ∙ is) where
    one : (k : ℕ) → bit_at 1 k ≡ 1 → k < suc n
    one zero is = omega arith
    one (suc k) is = absurd (no_bit (bit_at 1 (suc k)) is (bit_at-suc 1 k ∙ bit_at-zero k))

  -- no counter counts if none is admitted
  nothing : (k : ℕ) → all ≡ 0 → k < 32 → 0 ≡ weight_at before o (at_place rs k)
  nothing k none low = idle (at_place rs k) (bit_is (admits o (at_place rs k)) false (sym (admitted k low) ∙ ap (λ n. bit_at n k) none ∙ bit_at-zero k)) where
    idle : (place : Option Register) → admits o place ≡ false → 0 ≡ weight_at before o place
    idle None out = refl
    idle (Some r) out = sym (weight_of_other r before o out)

  whole_amount : (k : ℕ) → bit_at all k ≡ 1 → bit_at modified k ≡ 0 → o.amount ≡ weight_at before o (at_place rs k)
  whole_amount k is un =
      let low : k < 32 = let h = below k is in omega arith in
      let yes : admits o (at_place rs k) ≡ true = bit_is (admits o (at_place rs k)) true (sym (admitted k low) ∙ is) in
      sym (weight_plain before o (at_place rs k) (plain k low is un) ∙ ap (λ (b : Bool). if b then o.amount else 0) yes)

  go : (all ≡ 0) ⊎ (all ≡ 0 → ⊥) → Stepping before o ws rs modified (if all == 0 then 0 else o.amount) (if all == 0 then min (length ws) 1 else all) rs 0
  go (inl none) = rw (eq-eqb all 0 none) (beginning_with (min (length ws) 1) 0 (first_only (length ws)) (λ k isnt. ap (λ n. bit_at n k) none ∙ bit_at-zero k)
      (λ k is un. nothing k none (let h = first_only (length ws) k is in omega arith)))
  go (inr apart) = rw (ne_eqb all 0 apart) (beginning_with all o.amount below (λ k isnt. isnt) whole_amount)

pub goes_on : (before : Option Occ) (o : Occ) (ws : List ℕ) (rs now : List (Option Register)) (modified amount left carry more : ℕ) (x : Option Register) → 0 < left → left < 2 ^ 32 → length ws ≤ 32
    → Stepping before o ws rs modified amount left now carry
    → x ≡ (moved_place before o (get_or ws (lowest left) 0) (at_place now (lowest left))).place
    → bit_at more (lowest left) ≡ bit_of (moved_place before o (get_or ws (lowest left) 0) (at_place now (lowest left))).carried
    → ((k : ℕ) → k < 32 → (k ≡ lowest left → ⊥) → bit_at more k ≡ bit_at carry k)
    → Stepping before o ws rs modified amount (others left) (set now (lowest left) x) more
goes_on before o ws rs now modified amount left carry more x some small few s place here there = record {
  same_length = length-set now (lowest left) x ∙ s.same_length;
  within = λ k is. s.within k (was k is);
  adds = λ k is. s.adds k (was k is);
  clear = λ k is. there k (let h = s.within k (was k is) in omega arith) (apart k is) ∙ s.clear k (was k is);
  waits = λ k is. get_or-set_other now (lowest left) k x None (apart k is) ∙ s.waits k (was k is);
  done = λ k isnt. elim (cases_eq k (lowest left)) [
    | inl same ↦ rw same (get_or-set_same now (lowest left) x None exists ∙ place ∙ ap (λ r. (moved_place before o (get_or ws (lowest left) 0) r).place) still)
    | inr other ↦ get_or-set_other now (lowest left) k x None other ∙ s.done k (sym (other_bit left k some small other) ∙ isnt)
  ];
  carried = λ k low isnt. elim (cases_eq k (lowest left)) [
    | inl same ↦ rw same (here ∙ ap (λ r. bit_of (moved_place before o (get_or ws (lowest left) 0) r).carried) still)
    | inr other ↦ there k low other ∙ s.carried k low (sym (other_bit left k some small other) ∙ isnt)
  ];
} where
  still : at_place now (lowest left) ≡ at_place rs (lowest left)
  still = s.waits (lowest left) (lowest_is left some small).1

  exists : lowest left < length now
  exists = let e = s.same_length in let h = s.within (lowest left) (lowest_is left some small).1 in omega arith

  apart : (k : ℕ) → bit_at (others left) k ≡ 1 → k ≡ lowest left → ⊥
  apart k is same = no_bit (bit_at (others left) k) is (ap (bit_at (others left)) same ∙ cleared left some small)

  was : (k : ℕ) → bit_at (others left) k ≡ 1 → bit_at left k ≡ 1
  was k is = sym (other_bit left k some small (apart k is)) ∙ is

pub carries_at : (before : Option Occ) (o : Occ) (ws : List ℕ) (rs : List (Option Register)) (k : ℕ) → length rs ≡ length ws → get_or (all_carries before o ws rs) k false ≡ (moved_place before o (get_or ws k 0) (at_place rs k)).carried
carries_at before o [] [] k e = refl
carries_at before o [] (r ∷ rs) k e = absurd (omega arith)
carries_at before o (w ∷ ws) [] k e = absurd (omega arith)
carries_at before o (w ∷ ws) (r ∷ rs) zero e = refl
carries_at before o (w ∷ ws) (r ∷ rs) (suc k) e = carries_at before o ws rs k (omega arith)

-- at the end all are done
pub all_done : (before : Option Occ) (o : Occ) (ws : List ℕ) (rs now : List (Option Register)) (modified amount left carry : ℕ) → length rs ≡ length ws → left ≡ 0 → Stepping before o ws rs modified amount left now carry → now ≡ all_moved before o ws rs
all_done before o ws rs now modified amount left carry e none s =
    ext_get_or None now (all_moved before o ws rs) (s.same_length ∙ sym (length-all_moved before o ws rs e ∙ e)) (λ k below. s.done k (ap (λ n. bit_at n k) none ∙ bit_at-zero k) ∙ sym (at_place-all_moved before o ws rs k e))

pub all_carried : (before : Option Occ) (o : Occ) (ws : List ℕ) (rs now : List (Option Register)) (modified amount left carry : ℕ) → length rs ≡ length ws → length ws ≤ 32 → carry < 2 ^ 32 → left ≡ 0 → Stepping before o ws rs modified amount left now carry
    → carry ≡ bits_of (all_carries before o ws rs)
all_carried before o ws rs now modified amount left carry e few small none s =
    same_from_bits carry (bits_of (all_carries before o ws rs)) (λ k. bit k ∙ sym (bit_at-bits_of (all_carries before o ws rs) k ∙ ap bit_of (carries_at before o ws rs k e))) where
      bit : (k : ℕ) → bit_at carry k ≡ bit_of (moved_place before o (get_or ws k 0) (at_place rs k)).carried
      bit k = elim (cases_lt k 32) [
        | inl low ↦ s.carried k low (ap (λ n. bit_at n k) none ∙ bit_at-zero k)
        | inr high ↦ bit_at_above carry 32 k small high ∙ sym (ap (λ r. bit_of (moved_place before o (get_or ws k 0) r).carried) (get_or_past rs k None (omega arith)))
      ]

-- what the tables mark as modified is all that is
pub plain_by_marks : (rs : List (Option Register)) (all marks : ℕ) → ((k : ℕ) → k < 32 → bit_at marks k ≡ bit_of (is_modified (at_place rs k))) → ArePlain rs all (bit_and all marks)
plain_by_marks rs all marks h k low is un = bit_is (is_modified (at_place rs k)) false (sym (h k low) ∙ (let e = bit_at_and all marks k in let two = bit_at-lt marks k in omega arith))
