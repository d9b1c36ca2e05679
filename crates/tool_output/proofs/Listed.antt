-- Texts of lists, one more item at a time.
use Rattle.std.proofs.Common.{◌≡◌, ◌∙◌, ◌+◌, ◌-◌, ◌<◌, ◌≤◌, ◌∷◌, ◌++◌, ℕ, Bool, true, false, List, [], cond, filter, get_or, length, map, refl, sym, ap, take, arith, append_assoc, append-nil}
use Rattle.tool_output.proofs.Words.{flat_map_more, map-append, replicate-append-replicate, take_more, filter-append, length-range_with_len}
use Rattle.tool_output.proofs.Words.{count_by-le-length, sum_by-append, from_bool, count_by, flat_map, range_with_len, sum_by, range_more, Text}
use Rattle.tool_output.proofs.Words.{spaces}

-- ---- columns

-- what a loop over the places of a column keeps
abbrev pub IsFilled : Text → Text → ℕ → Text → Type 0
IsFilled start field place line = line ≡ start ++ (field ++ spaces (place - length field))

spaces_more : (m n k : ℕ) → m ≤ n → k ≡ n - m → spaces k ++ spaces 1 ≡ spaces ((n + 1) - m)
spaces_more m n k le is = replicate-append-replicate k 1 32 ∙ ap spaces (omega (arith, le, is))

-- one space more
pub space_pushed : (start line after field : Text) (place : ℕ) → length field ≤ place → IsFilled start field place line → after ≡ line ++ spaces 1 → IsFilled start field (place + 1) after
space_pushed start line after field place le so_far more =
    let left = place - length field in
    more ∙ ap (λ (t : Text). t ++ spaces 1) so_far ∙ append_assoc start (field ++ spaces left) (spaces 1)
    ∙ ap (λ (t : Text). start ++ t) (append_assoc field (spaces left) (spaces 1) ∙ ap (λ (t : Text). field ++ t) (spaces_more (length field) place left le refl))

-- ---- one item more of a list

pub taken_more : {X Y : Type 0} (view : X → Y) (xs : List X) (i : ℕ) (x : X) → i < length xs → x ≡ get_or xs i x → map view (take (i + 1) xs) ≡ map view (take i xs) ++ view x ∷ []
taken_more view xs i x lt at =
    ap (map view) (take_more xs i x lt ∙ ap (λ y. take i xs ++ y ∷ []) (sym at)) ∙ map-append view (take i xs) (x ∷ [])

pub filtered_more : {X : Type 0} (p : X → Bool) (xs ys : List X) (x : X) → ys ≡ xs ++ x ∷ [] → filter p ys ≡ filter p xs ++ cond (p x) (x ∷ []) []
filtered_more p xs ys x e = ap (filter p) e ∙ filter-append p xs (x ∷ [])

pub kept : {X : Type 0} (p : X → Bool) (xs ys : List X) (x : X) → ys ≡ xs ++ x ∷ [] → p x ≡ true → filter p ys ≡ filter p xs ++ x ∷ []
kept p xs ys x e holds = filtered_more p xs ys x e ∙ ap (λ b. filter p xs ++ cond b (x ∷ []) []) holds

pub passed : {X : Type 0} (p : X → Bool) (xs ys : List X) (x : X) → ys ≡ xs ++ x ∷ [] → p x ≡ false → filter p ys ≡ filter p xs
passed p xs ys x e fails = filtered_more p xs ys x e ∙ ap (λ b. filter p xs ++ cond b (x ∷ []) []) fails ∙ append-nil (filter p xs)

pub counted : {X : Type 0} (f : X → ℕ) (xs ys : List X) (x : X) → ys ≡ xs ++ x ∷ [] → sum_by f ys ≡ sum_by f xs + f x
counted f xs ys x e =
    let last : sum_by f (x ∷ []) ≡ f x = omega arith in
    ap (sum_by f) e ∙ sum_by-append f xs (x ∷ []) ∙ ap (λ n. sum_by f xs + n) last

-- how many rows up to a row pass a test
pub counted_row : (p : ℕ → Bool) (k seen flag : ℕ) → seen ≡ count_by p (range_with_len 0 k) → flag ≡ from_bool (p k) → seen + flag ≡ count_by p (range_with_len 0 (k + 1))
counted_row p k seen flag so_far is =
    let more = counted (λ x. cond (p x) 1 0) (range_with_len 0 k) (range_with_len 0 (k + 1)) k (range_more k) in
    omega (arith, so_far, is ∙ one_if (p k), more)
  where
    one_if : (b : Bool) → from_bool b ≡ cond b 1 0
    one_if true = refl
    one_if false = refl

pub count_within : (p : ℕ → Bool) (k : ℕ) → count_by p (range_with_len 0 k) ≤ k
count_within p k = omega (arith, count_by-le-length p (range_with_len 0 k), length-range_with_len 0 k)

-- ---- texts

-- the text of one item more is pushed
pub pushed : {X : Type 0} (f : X → Text) (xs ys : List X) (x : X) (start line after : Text) → ys ≡ xs ++ x ∷ [] → line ≡ start ++ flat_map f xs → after ≡ line ++ f x → after ≡ start ++ flat_map f ys
pushed f xs ys x start line after e so_far more =
    more ∙ ap (λ (t : Text). t ++ f x) so_far ∙ flat_map_more f start xs x ∙ ap (λ zs. start ++ flat_map f zs) (sym e)

-- the same items
pub unmoved : {X : Type 0} (f : X → Text) (xs ys : List X) (start line : Text) → ys ≡ xs → line ≡ start ++ flat_map f xs → line ≡ start ++ flat_map f ys
unmoved f xs ys start line e so_far = so_far ∙ ap (λ zs. start ++ flat_map f zs) (sym e)
