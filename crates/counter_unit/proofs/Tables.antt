-- The counters that occurrences with each code can move, as the registers change.
use Rattle.counter_unit.proofs.Words.{◌≡◌, ℕ, ◌<◌, inl, inr, List, length, set, get_or, replicate, ap, sym, ◌∙◌, arith, Option, Some, None, ◌%◌}
use Rattle.counter_unit.proofs.Words.{bit_at, and_left, cases_eq, ne_eqb, length-replicate, get_or-replicate, get_or-set_same, get_or-set_other}
use Rattle.counter_unit.proofs.Words.{bit_at-zero, Register, Key, at_place, is_modified, AreMarked}
use Rattle.counter_unit.proofs.Words.{IsMarkedAt, IsRemarked, bit_of, has}
use Rattle.std.specs.Prelude.{◌==◌, false}
use Rattle.counter_unit.specs.declared.selects.Key.TheVariants as key
use Rattle.counter_unit.proofs.Places.{at_place-replicate}

pub no_bit : (n : ℕ) → n ≡ 1 → n ≡ 0 → ⊥
no_bit n one none = absurd (omega arith)

pub AreMarked-none : (k : Key) (n : ℕ) → AreMarked k (replicate 256 0) (replicate n None)
AreMarked-none k n = record {
  codes = length-replicate {A = ℕ} 256 0;
  each = λ code c small below. ap (λ m. bit_at m c) (get_or-replicate 256 code 0 0 small) ∙ bit_at-zero c ∙ sym (ap (λ r. bit_of (has k code r)) (at_place-replicate n c));
}

pub AreMarked-put : (k : Key) (old new : List ℕ) (rs : List (Option Register)) (c : ℕ) (place : Option Register) → c < length rs → IsRemarked k c place old new → AreMarked k old rs → AreMarked k new (set rs c place)
AreMarked-put k old new rs c place exists r h = record {
  codes = r.codes ∙ h.codes;
  each = λ code i small below. elim (cases_eq i c) [
    | inl here ↦ rw (here, get_or-set_same rs c place None exists) (r.here code small)
    | inr apart ↦ r.there code i small below apart ∙ h.each code i small below ∙ sym (ap (λ p. bit_of (has k code p)) (get_or-set_other rs c i place None apart))
  ];
}

pub modified_put : (old new : ℕ) (rs : List (Option Register)) (c : ℕ) (place : Option Register) → c < length rs → bit_at new c ≡ bit_of (is_modified place)
    → ((k : ℕ) → k < 32 → (k ≡ c → ⊥) → bit_at new k ≡ bit_at old k) → ((k : ℕ) → k < 32 → bit_at old k ≡ bit_of (is_modified (at_place rs k)))
    → (k : ℕ) → k < 32 → bit_at new k ≡ bit_of (is_modified (at_place (set rs c place) k))
modified_put old new rs c place exists here there h k below = elim (cases_eq k c) [
  | inl same ↦ rw (same, get_or-set_same rs c place None exists) here
  | inr apart ↦ there k below apart ∙ h k below ∙ sym (ap (λ p. bit_of (is_modified p)) (get_or-set_other rs c k place None apart))
]

-- no other code than its own moves a register
pub code_alone : (code : ℕ) (r : Register) → (code ≡ r.native.select → ⊥) → (has key.User code (Some r) ≡ false) × (has key.Kernel code (Some r) ≡ false)
code_alone code r other =
    let no : (r.native.select == code) ≡ false = ne_eqb r.native.select code (λ e. other (sym e)) in
    (and_left (r.native.select == code) _ no, and_left (r.native.select == code) _ no)

pub comp_alone : (code : ℕ) (r : Register) → code < 256 → (code ≡ r.native.comp % 256 → ⊥) → has key.Comp code (Some r) ≡ false
comp_alone code r low other = ne_eqb r.native.comp code (λ e. other (omega arith))

-- the bits of the code that was, and of that which is, are set: no other can have been on, or be on
pub AreMarked-at : (k : Key) (old mid new : List ℕ) (rs : List (Option Register)) (c was is : ℕ) (before place : Option Register)
    → c < length rs → at_place rs c ≡ before → ((code : ℕ) → code < 256 → (code ≡ was → ⊥) → has k code before ≡ false) → ((code : ℕ) → code < 256 → (code ≡ is → ⊥) → has k code place ≡ false)
    → IsMarkedAt k was c place old mid → IsMarkedAt k is c place mid new → AreMarked k old rs → AreMarked k new (set rs c place)
AreMarked-at k old mid new rs c was is before place exists stood none_was none_is first second h = record {
  codes = second.codes ∙ first.codes ∙ h.codes;
  each = λ code i small below. elim (cases_eq i c) [
    | inl here ↦ rw (here, get_or-set_same rs c place None exists) (bits code small (let c_below : c < 32 = rw (← here) below in c_below))
    | inr apart ↦
        second.there code i small below (λ e f. apart f) ∙ first.there code i small below (λ e f. apart f) ∙ h.each code i small below
        ∙ sym (ap (λ p. bit_of (has k code p)) (get_or-set_other rs c i place None apart))
  ];
} where
  bits : (code : ℕ) → code < 256 → c < 32 → bit_at (get_or new code 0) c ≡ bit_of (has k code place)
  bits code small below = elim (cases_eq code is) [
    | inl same ↦ rw same second.here
    | inr other ↦ second.there code c small below (λ e f. other e) ∙ elim (cases_eq code was) [
      | inl same ↦ rw same first.here
      | inr neither ↦
          first.there code c small below (λ e f. neither e) ∙ h.each code c small below
          ∙ ap bit_of (ap (has k code) stood ∙ none_was code small neither ∙ sym (none_is code small other))
    ]
  ]

-- the table while the codes below this one are done
pub record Marking (k : Key) (c : ℕ) (place : Option Register) (old now : List ℕ) (done : ℕ) : Type 0 where
  pub codes : length now ≡ length old
  pub here : (code : ℕ) → code < done → bit_at (get_or now code 0) c ≡ bit_of (has k code place)
  pub there : (code i : ℕ) → i < 32 → (i ≡ c → ⊥) → bit_at (get_or now code 0) i ≡ bit_at (get_or old code 0) i
