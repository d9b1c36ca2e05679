-- The list of all assignments has exactly these, in increasing order, and the least is its first.
use Rattle.counter_alloc.proofs.Words.{◌≡◌, ℕ, zero, suc, ◌+◌, ◌^◌, ◌<◌, ◌≤◌, ◌⊎◌, inl, inr, refl, sym, ap, subst, ◌∙◌, arith, List, [], ◌∷◌, ◌++◌}
use Rattle.counter_alloc.proofs.Words.{map, length, get_or, Bool, true, false, eqb, Some, slice_get, filter, is_some, Contains, flat_map, list_any}
use Rattle.counter_alloc.proofs.Words.{range_with_len, cases_eq, cases_Bool, eqb-true, eqb-false, eq-eqb, ne_eqb, and_parts, and_from, or_parts}
use Rattle.counter_alloc.proofs.Words.{or_from, not-true, not_from_false, bit_at, Has, IsAssignment, Assignable, IsLeast, AtOrBefore, members}
use Rattle.counter_alloc.proofs.Words.{choices, all_distinct, assigns, least, IsBefore, AreMasks, ListsEach, ListsInOrder, ListsSome, OneLeast}
use Rattle.counter_alloc.proofs.Sets.{has_below}

-- x is an item of the list
abbrev pub In : {X : Type 0} → X → List X → Type 0
In x [] = ⊥
In x (y ∷ ys) = (y ≡ x) ⊎ In x ys

contains_of : {X : Type 0} (x : X) (xs : List X) → In x xs → Contains xs x
contains_of x [] h = absurd h
contains_of x (y ∷ ys) (inl e) = (0, omega arith, e)
contains_of x (y ∷ ys) (inr h) = let later = contains_of x ys h in (suc later.0, omega arith, later.2)

pub in_at : {X : Type 0} (x d : X) (xs : List X) (k : ℕ) → k < length xs → get_or xs k d ≡ x → In x xs
in_at x d [] k below e = absurd (omega arith)
in_at x d (y ∷ ys) zero below e = inl e
in_at x d (y ∷ ys) (suc k) below e = inr (in_at x d ys k (omega arith) e)

in_of : {X : Type 0} (x : X) (xs : List X) → Contains xs x → In x xs
in_of x xs h = in_at x x xs h.0 h.1 h.2

in_append_left : {X : Type 0} (x : X) (xs ys : List X) → In x xs → In x (xs ++ ys)
in_append_left x [] ys h = absurd h
in_append_left x (z ∷ xs) ys (inl e) = inl e
in_append_left x (z ∷ xs) ys (inr h) = inr (in_append_left x xs ys h)

in_append_right : {X : Type 0} (x : X) (xs ys : List X) → In x ys → In x (xs ++ ys)
in_append_right x [] ys h = h
in_append_right x (z ∷ xs) ys h = inr (in_append_right x xs ys h)

in_append : {X : Type 0} (x : X) (xs ys : List X) → In x (xs ++ ys) → In x xs ⊎ In x ys
in_append x [] ys h = inr h
in_append x (z ∷ xs) ys (inl e) = inl (inl e)
in_append x (z ∷ xs) ys (inr h) = elim (in_append x xs ys h) [ inl l ↦ inl (inr l) | inr r ↦ inr r ]

in_map : {X Y : Type 0} (f : X → Y) (x : X) (xs : List X) → In x xs → In (f x) (map f xs)
in_map f x [] h = absurd h
in_map f x (z ∷ xs) (inl e) = inl (ap f e)
in_map f x (z ∷ xs) (inr h) = inr (in_map f x xs h)

of_map : {X Y : Type 0} (f : X → Y) (y : Y) (xs : List X) → In y (map f xs) → (x : X) × In x xs × (f x ≡ y)
of_map f y [] h = absurd h
of_map f y (z ∷ xs) (inl e) = (z, inl refl, e)
of_map f y (z ∷ xs) (inr h) = let found = of_map f y xs h in (found.0, inr found.1, found.2)

in_flat : {X Y : Type 0} (f : X → List Y) (x : X) (y : Y) (xs : List X) → In x xs → In y (f x) → In y (flat_map f xs)
in_flat f x y [] h g = absurd h
in_flat f x y (z ∷ xs) (inl e) g = in_append_left y (f z) (flat_map f xs) (rw e g)
in_flat f x y (z ∷ xs) (inr h) g = in_append_right y (f z) (flat_map f xs) (in_flat f x y xs h g)

of_flat : {X Y : Type 0} (f : X → List Y) (y : Y) (xs : List X) → In y (flat_map f xs) → (x : X) × In x xs × In y (f x)
of_flat f y [] h = absurd h
of_flat f y (z ∷ xs) h = elim (in_append y (f z) (flat_map f xs) h) [
  | inl here ↦ (z, inl refl, here)
  | inr later ↦ let found = of_flat f y xs later in (found.0, inr found.1, found.2)
]

pub in_filter : {X : Type 0} (p : X → Bool) (x : X) (xs : List X) → In x xs → p x ≡ true → In x (filter p xs)
in_filter p x [] h t = absurd h
in_filter p x (z ∷ xs) (inl e) t = let passes : p z ≡ true = ap p e ∙ t in rw passes (inl e)
in_filter p x (z ∷ xs) (inr h) t = elim (cases_Bool (p z)) [
  | inl passes ↦ rw passes (inr (in_filter p x xs h t))
  | inr fails ↦ rw fails (in_filter p x xs h t)
]

pub of_filter : {X : Type 0} (p : X → Bool) (x : X) (xs : List X) → In x (filter p xs) → In x xs × (p x ≡ true)
of_filter p x [] h = absurd h
of_filter p x (z ∷ xs) h = elim (cases_Bool (p z)) [
  | inl passes ↦
      let split : (z ≡ x) ⊎ In x (filter p xs) = rw passes at h in
      elim split [
        | inl e ↦ (inl e, ap p (sym e) ∙ passes)
        | inr later ↦ let found = of_filter p x xs later in (inr found.0, found.1)
      ]
  | inr fails ↦ let found = of_filter p x xs (rw fails at h) in (inr found.0, found.1)
]

pub in_range : (k a n : ℕ) → a ≤ k → k < a + n → In k (range_with_len a n)
in_range k a zero low high = absurd (omega arith)
in_range k a (suc n) low high = elim (cases_eq a k) [
  | inl e ↦ inl e
  | inr ne ↦ inr (in_range k (a + 1) n (omega arith) (omega arith))
]

pub of_range : (k a n : ℕ) → In k (range_with_len a n) → a ≤ k
of_range k a zero h = absurd h
of_range k a (suc n) (inl e) = omega arith
of_range k a (suc n) (inr h) = let low = of_range k (a + 1) n h in omega arith

-- each item stands before the later ones
abbrev pub Ordered : {X : Type 0} → (X → X → Type 0) → List X → Type 0
Ordered R [] = Unit {0}
Ordered {X} R (x ∷ xs) = ((y : X) → In y xs → R x y) × Ordered R xs

ordered_range : (a n : ℕ) → Ordered (λ x y. x < y) (range_with_len a n)
ordered_range a zero = tt
ordered_range a (suc n) = ((λ y h. let low = of_range y (a + 1) n h in omega arith), ordered_range (a + 1) n)

ordered_filter : {X : Type 0} (R : X → X → Type 0) (p : X → Bool) (xs : List X) → Ordered R xs → Ordered R (filter p xs)
ordered_filter R p [] h = tt
ordered_filter R p (z ∷ xs) h = elim (cases_Bool (p z)) [
  | inl passes ↦ rw passes ((λ y later. h.0 y (of_filter p y xs later).0), ordered_filter R p xs h.1)
  | inr fails ↦ rw fails (ordered_filter R p xs h.1)
]

ordered_append : {X : Type 0} (R : X → X → Type 0) (xs ys : List X) → Ordered R xs → Ordered R ys → ((x y : X) → In x xs → In y ys → R x y) → Ordered R (xs ++ ys)
ordered_append R [] ys h g across = g
ordered_append R (z ∷ xs) ys h g across = (
  (λ y later. elim (in_append y xs ys later) [ inl l ↦ h.0 y l | inr r ↦ across z y (inl refl) r ]),
  ordered_append R xs ys h.1 g (λ x y p q. across x y (inr p) q),
)

ordered_cons : (c : ℕ) (xss : List (List ℕ)) → Ordered IsBefore xss → Ordered IsBefore (map (λ later. c ∷ later) xss)
ordered_cons c [] h = tt
ordered_cons c (xs ∷ xss) h = (
  (λ y later.
      let found = of_map (λ later. c ∷ later) y xss later in
      let P : List ℕ → Type 0 = IsBefore (c ∷ xs) in
      subst P found.2 (inr (refl, h.0 found.0 found.1))),
  ordered_cons c xss h.1,
)

ordered_flat : (xss : List (List ℕ)) (cs : List ℕ) → Ordered IsBefore xss → Ordered (λ x y. x < y) cs
    → Ordered IsBefore (flat_map (λ c. map (λ later. c ∷ later) xss) cs)
ordered_flat xss [] h g = tt
ordered_flat xss (c ∷ cs) h g =
    ordered_append IsBefore _ _ (ordered_cons c xss h) (ordered_flat xss cs h g.1) (λ x y p q.
    let first = of_map (λ later. c ∷ later) x xss p in
    let block = of_flat (λ c. map (λ later. c ∷ later) xss) y cs q in
    let second = of_map (λ later. block.0 ∷ later) y xss block.2 in
    let P : List ℕ → Type 0 = λ zs. IsBefore zs y in
    let Q : List ℕ → Type 0 = IsBefore (c ∷ first.0) in
    subst P first.2 (subst Q second.2 (inl (g.0 block.0 block.1))))

pub ordered_choices : (allowed : List ℕ) → Ordered IsBefore (choices allowed)
unfolding choices members
ordered_choices [] = ((λ y h. absurd h), tt)
ordered_choices (mask ∷ masks) =
    ordered_flat (choices masks) (members mask) (ordered_choices masks) (ordered_filter (λ (x y : ℕ). x < y) (λ k. eqb (bit_at mask k) 1) (range_with_len 0 32) (ordered_range 0 32))

pub ordered_assigns : (allowed : List ℕ) → Ordered IsBefore (assigns allowed)
unfolding assigns
ordered_assigns allowed = ordered_filter IsBefore all_distinct (choices allowed) (ordered_choices allowed)

in_members : (mask c : ℕ) → mask < 2 ^ 32 → Has mask c → In c (members mask)
unfolding members
in_members mask c bound has = in_filter (λ k. eqb (bit_at mask k) 1) c (range_with_len 0 32) (in_range c 0 32 (omega arith) (let low = has_below 32 mask c bound has in omega arith)) (eq-eqb _ _ has)

of_members : (mask c : ℕ) → In c (members mask) → Has mask c
unfolding members
of_members mask c h = eqb-true _ _ (of_filter (λ k. eqb (bit_at mask k) 1) c (range_with_len 0 32) h).1

in_choices : (allowed chosen : List ℕ) → AreMasks allowed → length chosen ≡ length allowed
    → ((i : ℕ) → i < length allowed → Has (get_or allowed i 0) (get_or chosen i 0)) → In chosen (choices allowed)
unfolding choices
in_choices [] [] masks same has = inl refl
in_choices [] (c ∷ cs) masks same has = absurd (omega arith)
in_choices (mask ∷ rest) [] masks same has = absurd (omega arith)
in_choices (mask ∷ rest) (c ∷ cs) masks same has =
    in_flat (λ d. map (λ later. d ∷ later) (choices rest)) c (c ∷ cs) (members mask)
    (in_members mask c (masks 0 (omega arith)) (has 0 (omega arith)))
    (in_map (λ later. c ∷ later) cs (choices rest) (in_choices rest cs (λ i below. masks (suc i) (omega arith)) (omega arith) (λ i below. has (suc i) (omega arith))))

abbrev Chooses : List ℕ → List ℕ → Type 0
Chooses allowed chosen = (length chosen ≡ length allowed) × ((i : ℕ) → i < length allowed → Has (get_or allowed i 0) (get_or chosen i 0))

chooses_cons : (mask c : ℕ) (rest cs : List ℕ) → Has mask c → Chooses rest cs → Chooses (mask ∷ rest) (c ∷ cs)
chooses_cons mask c rest cs has later = (let same = later.0 in omega arith, at)
  where
    at : (i : ℕ) → i < length (mask ∷ rest) → Has (get_or (mask ∷ rest) i 0) (get_or (c ∷ cs) i 0)
    at zero below = has
    at (suc i) below = later.1 i (omega arith)

of_choices : (allowed chosen : List ℕ) → In chosen (choices allowed) → Chooses allowed chosen
unfolding choices
of_choices [] chosen (inl e) = let P : List ℕ → Type 0 = Chooses [] in subst P e (refl, λ i below. absurd (omega arith))
of_choices [] chosen (inr h) = absurd h
of_choices (mask ∷ rest) chosen h =
    let block = of_flat (λ d. map (λ later. d ∷ later) (choices rest)) chosen (members mask) h in
    let found = of_map (λ later. block.0 ∷ later) chosen (choices rest) block.2 in
    let P : List ℕ → Type 0 = Chooses (mask ∷ rest) in
    subst P found.2 (chooses_cons mask block.0 rest found.0 (of_members mask block.0 block.1) (of_choices rest found.0 found.1))

none_equal : (c : ℕ) (cs : List ℕ) → (In c cs → ⊥) → list_any (λ d. eqb d c) cs ≡ false
none_equal c [] isnt = refl
none_equal c (d ∷ ds) isnt = or_from _ _ (ne_eqb d c (λ e. isnt (inl e))) (none_equal c ds (λ h. isnt (inr h)))

none_in : (c : ℕ) (cs : List ℕ) → list_any (λ d. eqb d c) cs ≡ false → In c cs → ⊥
none_in c [] t h = h
none_in c (d ∷ ds) t (inl e) = eqb-false d c (or_parts _ _ t).0 e
none_in c (d ∷ ds) t (inr h) = none_in c ds (or_parts _ _ t).1 h

index_in : (c : ℕ) (cs : List ℕ) → In c cs → (k : ℕ) × (k < length cs) × (get_or cs k 0 ≡ c)
index_in c [] h = absurd h
index_in c (d ∷ ds) (inl e) = (0, omega arith, e)
index_in c (d ∷ ds) (inr h) = let later = index_in c ds h in (suc later.0, omega arith, later.2)

abbrev Injective : List ℕ → Type 0
Injective cs = (i j : ℕ) → i < length cs → j < length cs → get_or cs i 0 ≡ get_or cs j 0 → i ≡ j

of_distinct : (cs : List ℕ) → all_distinct cs ≡ true → Injective cs
of_distinct [] t i j i_in j_in same = absurd (omega arith)
of_distinct (c ∷ cs) t zero zero i_in j_in same = refl
of_distinct (c ∷ cs) t zero (suc j) i_in j_in same =
    absurd (none_in c cs (not-true _ (and_parts _ _ t).0) (in_at c 0 cs j (omega arith) (sym same)))
of_distinct (c ∷ cs) t (suc i) zero i_in j_in same =
    absurd (none_in c cs (not-true _ (and_parts _ _ t).0) (in_at c 0 cs i (omega arith) same))
of_distinct (c ∷ cs) t (suc i) (suc j) i_in j_in same =
    let e = of_distinct cs (and_parts _ _ t).1 i j (omega arith) (omega arith) same in omega arith

is_distinct : (cs : List ℕ) → Injective cs → all_distinct cs ≡ true
is_distinct [] once = refl
is_distinct (c ∷ cs) once =
    and_from _ _
    (not_from_false _ (none_equal c cs (λ h.
    let at = index_in c cs h in
    let e : 0 ≡ suc at.0 = once 0 (suc at.0) (omega arith) (omega arith) (sym at.2) in
    omega arith)))
    (is_distinct cs (λ i j i_in j_in same. let e = once (suc i) (suc j) (omega arith) (omega arith) same in omega arith))

-- the list has each assignment
pub listed : (allowed chosen : List ℕ) → AreMasks allowed → IsAssignment allowed chosen → In chosen (assigns allowed)
unfolding assigns
listed allowed chosen masks assigned =
    let one = assigned.one_each in
    in_filter all_distinct chosen (choices allowed) (in_choices allowed chosen masks one assigned.is_allowed)
    (is_distinct chosen (λ i j i_in j_in same. assigned.distinct i j (omega arith) (omega arith) same))

-- and nothing else
pub of_listed : (allowed chosen : List ℕ) → In chosen (assigns allowed) → IsAssignment allowed chosen
unfolding assigns
of_listed allowed chosen h =
    let parts = of_filter all_distinct chosen (choices allowed) h in
    let chooses = of_choices allowed chosen parts.0 in
    let same = chooses.0 in
    record {
      one_each = chooses.0;
      is_allowed = chooses.1;
      distinct = λ i j i_in j_in. of_distinct chosen parts.1 i j (omega arith) (omega arith);
    }

before_not : (first second : List ℕ) → IsBefore first second → AtOrBefore second first → ⊥
before_not [] second before at = before
before_not (x ∷ xs) [] before at = before
before_not (x ∷ xs) (y ∷ ys) (inl lower) at = let le = at 0 (omega arith) (λ i below. absurd (omega arith)) in omega arith
before_not (x ∷ xs) (y ∷ ys) (inr both) at = before_not xs ys both.1 (λ k below agrees. at (suc k) (omega arith) (agree agrees))
  where
    agree : {k : ℕ} → ((i : ℕ) → i < k → get_or ys i 0 ≡ get_or xs i 0) → (i : ℕ) → i < suc k → get_or (y ∷ ys) i 0 ≡ get_or (x ∷ xs) i 0
    agree agrees zero below = sym both.0
    agree agrees (suc i) below = agrees i (omega arith)

first_listed : (xss : List (List ℕ)) (chosen : List ℕ) → Ordered IsBefore xss → In chosen xss → ((other : List ℕ) → In other xss → AtOrBefore chosen other)
    → slice_get xss 0 ≡ Some chosen
first_listed [] chosen ordered h least = absurd h
first_listed (xs ∷ xss) chosen ordered (inl e) least = ap Some e
first_listed (xs ∷ xss) chosen ordered (inr h) least = absurd (before_not xs chosen (ordered.0 chosen h) (least xs (inl refl)))

-- the least assignment is the first of the list
pub least_listed : (allowed chosen : List ℕ) → AreMasks allowed → IsLeast allowed chosen → least allowed ≡ Some chosen
least_listed allowed chosen masks least =
    first_listed (assigns allowed) chosen (ordered_assigns allowed) (listed allowed chosen masks least.is_assignment)
    (λ other h. least.comes_first other (of_listed allowed other h))

-- a list is assignable if it has assignments listed
pub assignable_listed : (allowed : List ℕ) → AreMasks allowed → Assignable allowed → 0 < length (assigns allowed)
assignable_listed allowed masks (chosen, assigned) = let at = contains_of chosen (assigns allowed) (listed allowed chosen masks assigned) in omega arith

ordered_at : {X : Type 0} (R : X → X → Type 0) (xs : List X) → Ordered R xs → (i j : ℕ) (d : X) → i < j → j < length xs → R (get_or xs i d) (get_or xs j d)
ordered_at R [] h i j d lt below = absurd (omega arith)
ordered_at R (x ∷ xs) h i zero d lt below = absurd (omega arith)
ordered_at R (x ∷ xs) h zero (suc j) d lt below = h.0 (get_or xs j d) (in_at (get_or xs j d) d xs j (omega arith) refl)
ordered_at R (x ∷ xs) h (suc i) (suc j) d lt below = ordered_at R xs h.1 i j d (omega arith) (omega arith)

pub lists_in_order : ListsInOrder
lists_in_order allowed = ordered_at IsBefore (assigns allowed) (ordered_assigns allowed)

pub lists_each : ListsEach
lists_each allowed chosen masks = (
  (λ h. of_listed allowed chosen (in_of chosen (assigns allowed) h)),
  (λ assigned. contains_of chosen (assigns allowed) (listed allowed chosen masks assigned)),
)

pub one_least : OneLeast
one_least allowed first second masks a b =
    let e : Some first ≡ Some second = sym (least_listed allowed first masks a) ∙ least_listed allowed second masks b in
    cc

some_first : (chosen : List ℕ) (xss : List (List ℕ)) → In chosen xss → is_some (slice_get xss 0) ≡ true
some_first chosen [] h = absurd h
some_first chosen (xs ∷ xss) h = refl

first_of : (xss : List (List ℕ)) → is_some (slice_get xss 0) ≡ true → (chosen : List ℕ) × In chosen xss
first_of [] some = cc
first_of (xs ∷ xss) some = (xs, inl refl)

pub lists_some : ListsSome
lists_some allowed masks = (
  (λ some. let first = first_of (assigns allowed) some in (first.0, of_listed allowed first.0 first.1)),
  (λ assignable. some_first assignable.0 (assigns allowed) (listed allowed assignable.0 masks assignable.1)),
)
