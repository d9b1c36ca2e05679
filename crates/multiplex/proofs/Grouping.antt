-- Groups as the loop makes them, one native event after another.
use Rattle.multiplex.proofs.Words.{◌≡◌, ℕ, zero, suc, ◌+◌, ◌<◌, ◌≤◌, Bool, true, false, List, [], ◌∷◌, ◌++◌, length, get_or, drop, refl, ap, sym}
use Rattle.multiplex.proofs.Words.{subst, ◌∙◌, arith, append_assoc, Some, slice_get, if◌then◌else◌, All, get_or_from_slice_get, slice_get_within}
use Rattle.multiplex.proofs.Words.{is_assignable, groups_from, group_count, EachHasGroup, AreOrdered}

-- each place has a group
numbers_length : (group : List ℕ) (number : ℕ) (masks : List ℕ) → length (groups_from group number masks) ≡ length masks
numbers_length group number [] = refl
numbers_length group number (m ∷ ms) =
    let joins = is_assignable (group ++ m ∷ []) in
    ap suc (numbers_length (if joins then group ++ m ∷ [] else m ∷ []) (if joins then number else number + 1) ms)

pub each_has_group : EachHasGroup
each_has_group masks = numbers_length [] 0 masks

-- what holds of all holds of the item at a place
pub all_at : {X : Type 0} (P : X → Type 0) (xs : List X) (i : ℕ) (x : X) → All P xs → slice_get xs i ≡ Some x → P x
all_at P xs i x h e = subst P (get_or_from_slice_get xs i x x e) (h i x (slice_get_within xs i x e))

-- the place at i begins what is left
drop_at : (xs : List ℕ) (i : ℕ) (x : ℕ) → slice_get xs i ≡ Some x → drop i xs ≡ x ∷ drop (i + 1) xs
drop_at xs i x e = let one : suc i ≡ i + 1 = omega arith in let P : ℕ → Type 0 = λ k. drop i xs ≡ x ∷ drop k xs in subst P one (go xs i x e) where
  go : (xs : List ℕ) (i : ℕ) (x : ℕ) → slice_get xs i ≡ Some x → drop i xs ≡ x ∷ drop (suc i) xs
  go [] i x e = cc
  go (y ∷ xs) zero x e = let same : y ≡ x = cc in ap (λ z. z ∷ xs) same
  go (y ∷ xs) (suc i) x e = go xs i x e

-- one turn of the loop, if the place joins the last group
pub turn_joins : (numbers group : List ℕ) (number i : ℕ) (masks all : List ℕ) (m : ℕ) → slice_get masks i ≡ Some m → is_assignable (group ++ m ∷ []) ≡ true
    → numbers ++ groups_from group number (drop i masks) ≡ all
    → (numbers ++ number ∷ []) ++ groups_from (group ++ m ∷ []) number (drop (i + 1) masks) ≡ all
turn_joins numbers group number i masks all m e fits h =
    let rest = drop (i + 1) masks in
    let step : Bool → List ℕ = λ b. (if b then number else number + 1) ∷ groups_from (if b then group ++ m ∷ [] else m ∷ []) (if b then number else number + 1) rest in
    append_assoc numbers (number ∷ []) (groups_from (group ++ m ∷ []) number rest)
    ∙ (ap (λ xs. numbers ++ xs) (sym (ap step fits))
    ∙ (ap (λ xs. numbers ++ groups_from group number xs) (sym (drop_at masks i m e)) ∙ h))

-- and if it begins the next one
pub turn_begins : (numbers group : List ℕ) (number i : ℕ) (masks all : List ℕ) (m : ℕ) → slice_get masks i ≡ Some m → is_assignable (group ++ m ∷ []) ≡ false
    → numbers ++ groups_from group number (drop i masks) ≡ all
    → (numbers ++ (number + 1) ∷ []) ++ groups_from (m ∷ []) (number + 1) (drop (i + 1) masks) ≡ all
turn_begins numbers group number i masks all m e no_fit h =
    let rest = drop (i + 1) masks in
    let step : Bool → List ℕ = λ b. (if b then number else number + 1) ∷ groups_from (if b then group ++ m ∷ [] else m ∷ []) (if b then number else number + 1) rest in
    append_assoc numbers ((number + 1) ∷ []) (groups_from (m ∷ []) (number + 1) rest)
    ∙ (ap (λ xs. numbers ++ xs) (sym (ap step no_fit))
    ∙ (ap (λ xs. numbers ++ groups_from group number xs) (sym (drop_at masks i m e)) ∙ h))

-- the last number gives the number of groups
pub group_count-push : (numbers : List ℕ) (g : ℕ) → group_count (numbers ++ g ∷ []) ≡ g + 1
group_count-push [] g = refl
group_count-push (x ∷ []) g = refl
group_count-push (x ∷ y ∷ xs) g = group_count-push (y ∷ xs) g

pub below_push : (xs : List ℕ) (old new : ℕ) → old ≤ new → ((k : ℕ) → k < length xs → get_or xs k 0 ≤ old) → (k : ℕ) → k < length (xs ++ new ∷ []) → get_or (xs ++ new ∷ []) k 0 ≤ new
below_push [] old new le h zero lt = omega arith
below_push [] old new le h (suc k) lt = omega arith
below_push (x ∷ xs) old new le h zero lt = let first = h 0 (omega arith) in omega arith
below_push (x ∷ xs) old new le h (suc k) lt = below_push xs old new le (λ j b. h (suc j) (omega arith)) k (omega arith)

-- groups stay in order if the last place has the last group or the next one
least_push : (x : ℕ) (xs : List ℕ) (new : ℕ) → ((i : ℕ) → i < length xs → x ≤ get_or xs i 0) → x ≤ new → (k : ℕ) → k < length (xs ++ new ∷ []) → x ≤ get_or (xs ++ new ∷ []) k 0
least_push x [] new h le zero lt = le
least_push x [] new h le (suc k) lt = omega arith
least_push x (y ∷ xs) new h le zero lt = h 0 (omega arith)
least_push x (y ∷ xs) new h le (suc k) lt = least_push x xs new (λ i b. h (suc i) (omega arith)) le k (omega arith)

pub ordered_push : (xs : List ℕ) (old new : ℕ) → old ≤ new → ((k : ℕ) → k < length xs → get_or xs k 0 ≤ old) → AreOrdered xs → AreOrdered (xs ++ new ∷ [])
ordered_push [] old new le h o zero zero r lt = omega arith
ordered_push [] old new le h o j (suc k) r lt = omega arith
ordered_push [] old new le h o (suc j) zero r lt = omega arith
ordered_push (x ∷ xs) old new le h o zero zero r lt = omega arith
ordered_push (x ∷ xs) old new le h o zero (suc k) r lt = least_push x xs new (λ i b. o 0 (suc i) (omega arith) (omega arith)) (let first = h 0 (omega arith) in omega arith) k (omega arith)
ordered_push (x ∷ xs) old new le h o (suc j) zero r lt = omega arith
ordered_push (x ∷ xs) old new le h o (suc j) (suc k) r lt = ordered_push xs old new le (λ i b. h (suc i) (omega arith)) (λ a b r l. o (suc a) (suc b) (omega arith) (omega arith)) j k (omega arith) (omega arith)
