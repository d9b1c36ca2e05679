-- If the counters do not suffice: a deficient set rules an assignment out, and a set closed under the counters' holders lies in each.
use Rattle.counter_alloc.proofs.Words.{◌≡◌, ◌≢◌, ℕ, ◌+◌, ◌^◌, ◌<◌, ◌≤◌, inl, inr, refl, sym, ap, ◌∙◌, arith, List, length, get_or, bit_at-lt, bit_at}
use Rattle.counter_alloc.proofs.Words.{Has, Assignable, Deficient, counters_of, AreMasks, Holds}
use Rattle.counter_alloc.proofs.Sizes.{size, without, without_other, without_lt, without_apart, size_without, pigeons, ones_size}
use Rattle.counter_alloc.proofs.Sets.{cases_has, has_below, counters_of_has, counters_from_below}

-- a deficient set rules an assignment out
pub deficient_not_assignable : (allowed : List ℕ) (s : ℕ) → AreMasks allowed → Deficient allowed s → Assignable allowed → ⊥
deficient_not_assignable allowed s masks deficient (chosen, assigned) =
    let n : ℕ = length allowed in
    let union : counters_of allowed s < 2 ^ 32 = counters_from_below 32 0 allowed s masks in
    let members = ones_size n s deficient.are_places in
    let counters = ones_size 32 (counters_of allowed s) union in
    let R : ℕ → ℕ → Type 0 = λ x y. (x < n) × (get_or chosen x 0 ≡ y) in
    let few : size (bit_at s) n ≤ size (bit_at (counters_of allowed s)) 32 =
    pigeons n 32 (bit_at s) (bit_at (counters_of allowed s)) R (bit_at-lt s)
    (λ x below member.
    let has = assigned.is_allowed x below in
    (get_or chosen x 0, has_below 32 _ _ (masks x below) has, counters_of_has allowed s x _ below member has, (below, refl)))
    (λ x z y p q. assigned.distinct x z p.0 q.0 (p.1 ∙ sym q.1)) in
    let short = deficient.short_of_counters in
    omega arith

module _ (allowed chosen : List ℕ) (hole : ℕ) (masks : AreMasks allowed) (held : Holds allowed chosen hole) (hole_in : hole < length allowed) where
  -- the members of s but the hole have counters of their own in the union
  abbrev Given : ℕ → ℕ → Type 0
  Given x y = (x < length allowed) × (x ≢ hole) × (get_or chosen x 0 ≡ y)

  given_once : (x z y : ℕ) → Given x y → Given z y → x ≡ z
  given_once x z y p q = held.distinct x z p.0 q.0 p.1 q.1 (p.2 ∙ sym q.2)

  -- a deficient set has the hole
  pub hole_in_each : (s : ℕ) → Deficient allowed s → Has s hole
  hole_in_each s deficient =
      elim (cases_has s hole) [
        | inl has ↦ has
        | inr hasnt ↦
            let n : ℕ = length allowed in
            let union : counters_of allowed s < 2 ^ 32 = counters_from_below 32 0 allowed s masks in
            let members = ones_size n s deficient.are_places in
            let counters = ones_size 32 (counters_of allowed s) union in
            let few : size (bit_at s) n ≤ size (bit_at (counters_of allowed s)) 32 =
            pigeons n 32 (bit_at s) (bit_at (counters_of allowed s)) Given (bit_at-lt s)
            (λ x below member.
            let apart : x ≢ hole = λ e. let same : bit_at s x ≡ bit_at s hole = ap (bit_at s) e in omega arith in
            let has = held.is_allowed x below apart in
            (get_or chosen x 0, has_below 32 _ _ (masks x below) has, counters_of_has allowed s x _ below member has, (below, apart, refl)))
            given_once in
            let short = deficient.short_of_counters in
            absurd (omega arith)
      ]

  -- the holder of a counter that a member of a deficient set is allowed is a member too
  pub holder_in_each : (s : ℕ) → Deficient allowed s → (x i : ℕ) → x < length allowed → Has s x → i < length allowed → i ≢ hole
      → Has (get_or allowed x 0) (get_or chosen i 0) → Has s i
  holder_in_each s deficient x i x_in x_member i_in i_apart wants =
      elim (cases_has s i) [
        | inl has ↦ has
        | inr hasnt ↦
            let n : ℕ = length allowed in
            let c : ℕ = get_or chosen i 0 in
            let union : counters_of allowed s < 2 ^ 32 = counters_from_below 32 0 allowed s masks in
            let members = ones_size n s deficient.are_places in
            let counters = ones_size 32 (counters_of allowed s) union in
            let in_union : Has (counters_of allowed s) c = counters_of_has allowed s x c x_in x_member wants in
            let hole_member : Has s hole = hole_in_each s deficient in
            let fewer_members : size (without (bit_at s) hole) n + bit_at s hole ≡ size (bit_at s) n = size_without (bit_at s) hole n hole_in in
            let fewer_counters : size (without (bit_at (counters_of allowed s)) c) 32 + bit_at (counters_of allowed s) c ≡ size (bit_at (counters_of allowed s)) 32 =
            size_without (bit_at (counters_of allowed s)) c 32 (has_below 32 _ _ union in_union) in
            let few : size (without (bit_at s) hole) n ≤ size (without (bit_at (counters_of allowed s)) c) 32 =
            pigeons n 32 (without (bit_at s) hole) (without (bit_at (counters_of allowed s)) c) Given (without_lt (bit_at s) hole (bit_at-lt s))
            (λ y below member.
            let apart : y ≢ hole = without_apart (bit_at s) hole y member in
            let is_member : Has s y = sym (without_other (bit_at s) hole y apart) ∙ member in
            let has = held.is_allowed y below apart in
            let other : get_or chosen y 0 ≢ c = λ e.
            let same : y ≡ i = held.distinct y i below i_in apart i_apart e in
            let same_bit : bit_at s y ≡ bit_at s i = ap (bit_at s) same in
            omega arith in (
              get_or chosen y 0,
              has_below 32 _ _ (masks y below) has,
              without_other (bit_at (counters_of allowed s)) c _ other ∙ counters_of_has allowed s y _ below is_member has,
              (below, apart, refl),
            ))
            given_once in
            let short = deficient.short_of_counters in
            absurd (omega arith)
      ]
