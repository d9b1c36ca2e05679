-- Two texts that are written one after the other.
use Rattle.papi_tools.proofs.Words.{◌≡◌, ◌≤◌, ◌+◌, ◌++◌, ℕ, List, Option, Some, None, length, take, refl, sym, ap, ◌∙◌, append_assoc, length-append}
use Rattle.papi_tools.proofs.Words.{arith, OnErr, Result, Ok, Err, take-append-add, take-append-le, appended}

appended_twice : (o : Option (List ℕ)) (xs ys : List ℕ) → appended (appended o xs) ys ≡ appended o (xs ++ ys)
appended_twice None xs ys = refl
appended_twice (Some zs) xs ys = ap Some (append_assoc zs xs ys)

pub both : (before between after : Option (List ℕ)) (xs ys : List ℕ) → between ≡ appended before xs → after ≡ appended between ys → after ≡ appended before (xs ++ ys)
both before between after xs ys first second = second ∙ ap (λ o. appended o ys) first ∙ appended_twice before xs ys

pub part_of_first : (before after : Option (List ℕ)) (xs ys : List ℕ) → (k : ℕ) × (k ≤ length xs) × (after ≡ appended before (take k xs))
    → (k : ℕ) × (k ≤ length (xs ++ ys)) × (after ≡ appended before (take k (xs ++ ys)))
part_of_first before after xs ys (k, small, w) = (k, omega (arith, length-append xs ys), w ∙ ap (appended before) (sym (take-append-le k xs ys small)))

pub part_of_second : (before between after : Option (List ℕ)) (xs ys : List ℕ) → between ≡ appended before xs → (k : ℕ) × (k ≤ length ys) × (after ≡ appended between (take k ys))
    → (k : ℕ) × (k ≤ length (xs ++ ys)) × (after ≡ appended before (take k (xs ++ ys)))
part_of_second before between after xs ys first (k, small, w) = (
  length xs + k,
  omega (arith, length-append xs ys),
  both before between after xs (take k ys) first w ∙ ap (appended before) (sym (take-append-add xs ys k)),
)

pub always_on_err : {T E P : Type 0} (r : Result T E) → P → OnErr r P
always_on_err (Ok x) p = tt
always_on_err (Err e) p = p
