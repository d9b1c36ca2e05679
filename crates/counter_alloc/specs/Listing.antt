-- All assignments of a list, in increasing order. That the first one is taken is a choice of this project.
use Rattle.std.specs.Prelude.{ℕ, ◌≡◌, ◌<◌, ◌⊎◌, ◌==◌, ◌&&◌, Bool, true, not, List, [], ◌∷◌, map, filter, Option, is_some, slice_get}
use Rattle.std.specs.List.{flat_map, list_any, range_with_len}
use Rattle.std.specs.Int.{bit_at}

-- the members of a set of counters, in increasing order
unfoldable pub members : ℕ → List ℕ
members set = filter (λ k. bit_at set k == 1) (range_with_len 0 32)

-- all choices of one allowed counter for each place, in increasing order compared place by place
unfoldable pub choices : List ℕ → List (List ℕ)
choices [] = [] ∷ []
choices (mask ∷ masks) = flat_map (λ c. map (λ later. c ∷ later) (choices masks)) (members mask)

-- whether no number comes twice
abbrev pub all_distinct : List ℕ → Bool
all_distinct [] = true
all_distinct (c ∷ cs) = not (list_any (λ d. d == c) cs) && all_distinct cs

-- all choices of one allowed counter for each place, pairwise distinct, in increasing order compared place by place
unfoldable pub assigns : List ℕ → List (List ℕ)
assigns allowed = filter all_distinct (choices allowed)

-- compared place by place, the first comes before the second
abbrev pub IsBefore : List ℕ → List ℕ → Type 0
IsBefore [] second = ⊥
IsBefore (x ∷ xs) [] = ⊥
IsBefore (x ∷ xs) (y ∷ ys) = (x < y) ⊎ ((x ≡ y) × IsBefore xs ys)

-- the least assignment, if there is one
abbrev pub least : List ℕ → Option (List ℕ)
least allowed = slice_get (assigns allowed) 0

-- whether there is an assignment
abbrev pub is_assignable : List ℕ → Bool
is_assignable allowed = is_some (least allowed)
