-- The counters of names, as bits.
use Rattle.event_tables.proofs.Words.{◌≡◌, ◌∙◌, ◌<◌, ◌≤◌, ◌^◌, ◌%◌, ◌*◌, ◌∷◌, ℕ, List, [], Option, Some, None, Bool, true, false, length, refl, ap}
use Rattle.event_tables.proofs.Words.{arith, pow-lt, or_comm, or_lt, le_or_l, le_or_r, pow_pos, is_some, not, if◌then◌else◌, bit_or, filter, fold}
use Rattle.event_tables.proofs.Words.{bytes_eq, Text, CounterText, bits_of, counter_place, place_bit}
use Rattle.event_tables.proofs.Searches.{position_from-lt}

-- a bit below 32 is what the shift gives
pub bit-shifted : (p : ℕ) → p < 32 → 1 * 2 ^ p % 2 ^ 32 ≡ 2 ^ p
bit-shifted p lt = let small : 2 ^ p < 2 ^ 32 = pow-lt lt in omega (arith, small)

place_bit-lt : (counters : List CounterText) (name : Text) → place_bit (counter_place counters name) < 2 ^ length counters
place_bit-lt counters name = go (counter_place counters name) refl
  where
    go : (o : Option ℕ) → counter_place counters name ≡ o → place_bit o < 2 ^ length counters
    go None e = pow_pos (length counters)
    go (Some p) e =
        let lt = position_from-lt (λ (k : CounterText). bytes_eq k.name name) 0 counters p e in
        let inside : p < length counters = omega (arith, lt) in
        pow-lt inside

fold-lt : (counters : List CounterText) (a : ℕ) (names : List Text) → a < 2 ^ length counters
    → fold (λ bits n. bit_or bits (place_bit (counter_place counters n))) a names < 2 ^ length counters
fold-lt counters a [] lt = lt
fold-lt counters a (n ∷ names) lt = fold-lt counters (bit_or a (place_bit (counter_place counters n))) names (or_lt (length counters) a _ lt (place_bit-lt counters n))

-- what stands between spaces and is no name gives no bit
pub fold-filled : {X : Type 0} (empty : X → Bool) (bit : X → ℕ) (a : ℕ) (xs : List X)
    → fold (λ bits x. bit_or bits (if empty x then 0 else bit x)) a xs ≡ fold (λ bits x. bit_or bits (bit x)) a (filter (λ x. not (empty x)) xs)
fold-filled empty bit a [] = refl
fold-filled empty bit a (x ∷ xs) = go (empty x) (λ n. fold-filled empty bit n xs)
  where
    go : (b : Bool) → ((n : ℕ) → fold (λ bits x. bit_or bits (if empty x then 0 else bit x)) n xs ≡ fold (λ bits x. bit_or bits (bit x)) n (filter (λ x. not (empty x)) xs))
        → fold (λ bits x. bit_or bits (if empty x then 0 else bit x)) (bit_or a (if b then 0 else bit x)) xs
        ≡ fold (λ bits x. bit_or bits (bit x)) a (if not b then x ∷ filter (λ x. not (empty x)) xs else filter (λ x. not (empty x)) xs)
    go true more = ap (λ n. fold (λ bits x. bit_or bits (if empty x then 0 else bit x)) n xs) (or_comm a 0) ∙ more a
    go false more = more (bit_or a (bit x))

-- the bits are counters of the component
pub bits_of-lt : (counters : List CounterText) (names : List Text) → bits_of counters names < 2 ^ length counters
bits_of-lt counters names = fold-lt counters 0 names (pow_pos (length counters))

fold-above : (counters : List CounterText) (a : ℕ) (names : List Text) → a ≤ fold (λ bits n. bit_or bits (place_bit (counter_place counters n))) a names
fold-above counters a [] = omega arith
fold-above counters a (n ∷ names) =
    let here = le_or_l a (place_bit (counter_place counters n)) in
    let more = fold-above counters (bit_or a (place_bit (counter_place counters n))) names in
    omega (arith, here, more)

place_bit-some : (o : Option ℕ) → is_some o ≡ true → 0 < place_bit o
place_bit-some None e = cc e
place_bit-some (Some p) e = pow_pos p

-- and there is one, if a name is given and known
pub bits_of-some : (counters : List CounterText) (name : Text) (names : List Text) → is_some (counter_place counters name) ≡ true → 0 < bits_of counters (name ∷ names)
bits_of-some counters name names e =
    let bit = place_bit-some (counter_place counters name) e in
    let here = le_or_r 0 (place_bit (counter_place counters name)) in
    let more = fold-above counters (bit_or 0 (place_bit (counter_place counters name))) names in
    omega (arith, bit, here, more)
