-- The assignment that comes first, place by place.
use Rattle.counter_alloc.proofs.Words.{◌≡◌, ◌≢◌, ℕ, ◌+◌, ◌^◌, ◌<◌, ◌≤◌, inl, inr, refl, sym, ap, subst, ◌∙◌, arith, List, length, get_or, set}
use Rattle.counter_alloc.proofs.Words.{get_or-set_same, get_or-set_other, length-set, set-set, cases_eq, cases_lt, bit_at-pow_same, bit_at-pow_other}
use Rattle.counter_alloc.proofs.Words.{pow-lt, Has, IsAssignment, Assignable, IsLeastDeficient, Settles, AreMasks}
use Rattle.counter_alloc.proofs.Sets.{has_below}
use Rattle.counter_alloc.proofs.Hall.{deficient_not_assignable}

-- the only member of a set of one
only_member : (c k : ℕ) → Has (2 ^ c) k → k ≡ c
only_member c k has = elim (cases_eq k c) [
  | inl e ↦ e
  | inr ne ↦ let none = bit_at-pow_other c k ne in absurd (omega arith)
]

-- a place may be allowed its own counter alone
pub assigned_alone : (allowed chosen : List ℕ) (place c : ℕ) → place < length allowed → get_or chosen place 0 ≡ c → IsAssignment allowed chosen
    → IsAssignment (set allowed place (2 ^ c)) chosen
assigned_alone allowed chosen place c place_in is assigned =
    let same : length (set allowed place (2 ^ c)) ≡ length allowed = length-set allowed place (2 ^ c) in
    let one = assigned.one_each in
    record {
      one_each = omega arith;
      is_allowed = λ i below. elim (cases_eq i place) [
        | inl e ↦ rw (e, get_or-set_same allowed place (2 ^ c) 0 place_in, is) (bit_at-pow_same c)
        | inr ne ↦ rw (get_or-set_other allowed place i (2 ^ c) 0 ne) (assigned.is_allowed i (omega arith))
      ];
      distinct = λ i j i_in j_in. assigned.distinct i j (omega arith) (omega arith);
    }

-- the lists differ in what the place is allowed, and no counter below this one that it was allowed would do
pub record Tried (first allowed : List ℕ) (place counter : ℕ) : Type 0 where
  pub others : (mask : ℕ) → set allowed place mask ≡ set first place mask
  pub none : (c : ℕ) → c < counter → Has (get_or first place 0) c → Assignable (set first place (2 ^ c)) → ⊥

module _ (first allowed : List ℕ) (place counter : ℕ) (tried : Tried first allowed place counter) where
  pub tried_skip : (Has (get_or first place 0) counter → ⊥) → Tried first allowed place (counter + 1)
  tried_skip isnt = record {
    others = tried.others;
    none = λ c below has. elim (cases_eq c counter) [
      | inl e ↦ absurd (isnt (rw (← e) has))
      | inr ne ↦ tried.none c (omega arith) has
    ];
  }

  -- a counter for which there is a deficient set would not do
  pub tried_more : (members : ℕ) → AreMasks first → counter < 32 → IsLeastDeficient (set allowed place (2 ^ counter)) members
      → Tried first (set allowed place (2 ^ counter)) place (counter + 1)
  tried_more members masks small least =
      let P : List ℕ → Type 0 = λ xs. IsLeastDeficient xs members in
      let refused = deficient_not_assignable (set first place (2 ^ counter)) members
      (λ i below. elim (cases_eq i place) [
        | inl e ↦ rw (e, get_or-set_same first place (2 ^ counter) 0 (let n = length-set first place (2 ^ counter) in omega arith)) (pow-lt small)
        | inr ne ↦ rw (get_or-set_other first place i (2 ^ counter) 0 ne) (masks i (let n = length-set first place (2 ^ counter) in omega arith))
      ])
      (subst P (tried.others (2 ^ counter)) least).is_deficient in
      record {
        others = λ mask. set-set allowed place (2 ^ counter) mask ∙ tried.others mask;
        none = λ c below has. elim (cases_eq c counter) [
          | inl e ↦ rw e refused
          | inr ne ↦ tried.none c (omega arith) has
        ];
      }

  -- the first counter that does
  pub tried_settles : (chosen : List ℕ) → place < length first → Has (get_or first place 0) counter
      → IsAssignment (set allowed place (2 ^ counter)) chosen → Settles first (set allowed place (2 ^ counter)) chosen place
  tried_settles chosen within has assigned =
      let same = tried.others (2 ^ counter) in
      let P : List ℕ → Type 0 = λ xs. IsAssignment xs chosen in
      let done : IsAssignment (set first place (2 ^ counter)) chosen = subst P same assigned in
      let Q : ℕ → Type 0 = λ mask. Has mask (get_or chosen place 0) in
      let is : get_or chosen place 0 ≡ counter =
      only_member _ _ (subst Q (get_or-set_same first place (2 ^ counter) 0 within)
      (done.is_allowed place (let n = length-set first place (2 ^ counter) in omega arith))) in
      record {
        only = same ∙ ap (λ c. set first place (2 ^ c)) (sym is);
        was_allowed = rw is has;
        assigned = assigned;
        lowest = λ c below. tried.none c (omega arith);
      }

  -- its own counter would do
  pub tried_own : (chosen : List ℕ) → place < length first → 32 ≤ counter → AreMasks first → IsAssignment first chosen → ⊥
  tried_own chosen within all masks assigned =
      let own : ℕ = get_or chosen place 0 in
      let has : Has (get_or first place 0) own = assigned.is_allowed place within in
      let below : own < 32 = has_below 32 _ _ (masks place within) has in
      tried.none own (omega arith) has (chosen, assigned_alone first chosen place own within refl assigned)

-- the places before this one are settled
pub record Settled (first allowed chosen : List ℕ) (place : ℕ) : Type 0 where
  pub assigned : IsAssignment allowed chosen
  pub same_length : length allowed ≡ length first
  pub rest : (i : ℕ) → place ≤ i → get_or allowed i 0 ≡ get_or first i 0
  pub fixed : (i : ℕ) → i < place → get_or allowed i 0 ≡ 2 ^ get_or chosen i 0
  pub was_allowed : (i : ℕ) → i < place → Has (get_or first i 0) (get_or chosen i 0)
  pub lowest : (other : List ℕ) → IsAssignment first other → (k : ℕ) → k < place
      → ((i : ℕ) → i < k → get_or chosen i 0 ≡ get_or other i 0) → get_or chosen k 0 ≤ get_or other k 0

module _ (first allowed chosen after later : List ℕ) (place : ℕ) (within : place < length first) (settled : Settled first allowed chosen place)
    (settles : Settles allowed after later place) where
  place_in : place < length allowed
  place_in = let same = settled.same_length in omega arith

  after_other : (i : ℕ) → i ≢ place → get_or after i 0 ≡ get_or allowed i 0
  after_other i ne = ap (λ xs. get_or xs i 0) settles.only ∙ get_or-set_other allowed place i _ 0 ne

  after_place : get_or after place 0 ≡ 2 ^ get_or later place 0
  after_place = ap (λ xs. get_or xs place 0) settles.only ∙ get_or-set_same allowed place _ 0 place_in

  after_length : length after ≡ length allowed
  after_length = ap length settles.only ∙ length-set allowed place _

  -- the places before keep their counters
  keeps : (i : ℕ) → i < place → get_or later i 0 ≡ get_or chosen i 0
  keeps i below =
      let same = after_length in
      let P : ℕ → Type 0 = λ mask. Has mask (get_or later i 0) in
      let inside = place_in in
      only_member _ _ (subst P (after_other i (omega arith) ∙ settled.fixed i below) (settles.assigned.is_allowed i (omega arith)))

  -- another assignment that agrees before the place is one under its counter there
  pub agrees_before : (other : List ℕ) → IsAssignment first other → ((i : ℕ) → i < place → get_or later i 0 ≡ get_or other i 0)
      → IsAssignment (set allowed place (2 ^ get_or other place 0)) other
  agrees_before other is agrees =
      let c : ℕ = get_or other place 0 in
      let changed : length (set allowed place (2 ^ c)) ≡ length allowed = length-set allowed place (2 ^ c) in
      let same = settled.same_length in
      let one = is.one_each in
      record {
        one_each = omega arith;
        is_allowed = λ i below. elim (cases_eq i place) [
          | inl e ↦ rw (e, get_or-set_same allowed place (2 ^ c) 0 place_in) (bit_at-pow_same c)
          | inr ne ↦ elim (cases_lt i place) [
            | inl lt ↦
                let e : get_or chosen i 0 ≡ get_or other i 0 = sym (keeps i lt) ∙ agrees i lt in
                rw (get_or-set_other allowed place i (2 ^ c) 0 ne, settled.fixed i lt, e) (bit_at-pow_same (get_or other i 0))
            | inr ge ↦ rw (get_or-set_other allowed place i (2 ^ c) 0 ne, settled.rest i ge) (is.is_allowed i (omega arith))
          ]
        ];
        distinct = λ i j i_in j_in. is.distinct i j (omega arith) (omega arith);
      }

  pub settled_next : Settled first after later (place + 1)
  settled_next =
      let same = settled.same_length in
      let changed = after_length in
      record {
        assigned = settles.assigned;
        same_length = omega arith;
        rest = λ i h. after_other i (omega arith) ∙ settled.rest i (omega arith);
        fixed = λ i below. elim (cases_eq i place) [
          | inl e ↦ rw e after_place
          | inr ne ↦ after_other i ne ∙ settled.fixed i (omega arith) ∙ ap (λ c. 2 ^ c) (sym (keeps i (omega arith)))
        ];
        was_allowed = λ i below. elim (cases_eq i place) [
          | inl e ↦ rw (e, ← settled.rest place (omega arith)) settles.was_allowed
          | inr ne ↦ rw (keeps i (omega arith)) (settled.was_allowed i (omega arith))
        ];
        lowest = λ other is k below agrees. elim (cases_eq k place) [
          | inl e ↦ elim (cases_lt (get_or other place 0) (get_or later place 0)) [
            | inl lower ↦
                let P : ℕ → Type 0 = λ mask. Has mask (get_or other place 0) in
                absurd (settles.lowest (get_or other place 0) lower (subst P (sym (settled.rest place (omega arith))) (is.is_allowed place within))
                (other, agrees_before other is (λ i lt. agrees i (omega arith))))
            | inr ge ↦ rw e ge
          ]
          | inr ne ↦ rw (keeps k (omega arith)) (settled.lowest other is k (omega arith) (λ i lt. sym (keeps i (omega arith)) ∙ agrees i lt))
        ];
      }
