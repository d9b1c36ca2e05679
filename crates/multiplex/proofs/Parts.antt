-- The groups are the parts into which the list is cut, by induction on what is left of it.
use Rattle.multiplex.proofs.Words.{◌≡◌, ℕ, suc, ◌+◌, ◌<◌, ◌^◌, Bool, true, false, List, [], ◌∷◌, ◌++◌, length, get_or, replicate, refl, ap, subst}
use Rattle.multiplex.proofs.Words.{◌∙◌, arith, append_assoc, if◌then◌else◌, concat, append-nil, is_assignable, is_assignable_one, groups_from}
use Rattle.multiplex.proofs.Words.{AreLongest, GroupsAreParts, numbered}

-- what is left, cut: the places that join the last group, and the further parts
record Cut (group : List ℕ) (number : ℕ) (masks : List ℕ) : Type 0 where
  more : List ℕ
  rest : List (List ℕ)
  longest : AreLongest ((group ++ more) ∷ rest)
  whole : more ++ concat rest ≡ masks
  numbers : groups_from group number masks ≡ replicate (length more) number ++ numbered (number + 1) rest

-- each has an allowed counter of 32
abbrev Good : List ℕ → Type 0
Good [] = Unit {0}
Good (m ∷ ms) = (is_assignable (m ∷ []) ≡ true) × Good ms

longest_first : (part other : List ℕ) (rest : List (List ℕ)) → part ≡ other → AreLongest (part ∷ rest) → AreLongest (other ∷ rest)
longest_first part other rest e h = subst (λ p. AreLongest (p ∷ rest)) e h

abbrev step : List ℕ → ℕ → ℕ → List ℕ → Bool → List ℕ
step group number m ms b = (if b then number else number + 1) ∷ groups_from (if b then group ++ m ∷ [] else m ∷ []) (if b then number else number + 1) ms

cut : (group : List ℕ) (number : ℕ) (masks : List ℕ) → is_assignable group ≡ true → Good masks → Cut group number masks
cut group number [] fits good = record { more = []; rest = []; longest = ap is_assignable (append-nil group) ∙ fits; whole = refl; numbers = refl }
cut group number (m ∷ ms) fits good = go (is_assignable (group ++ m ∷ [])) refl (λ h. cut (group ++ m ∷ []) number ms h good.1) (cut (m ∷ []) (number + 1) ms good.0 good.1) where
  go : (b : Bool) → is_assignable (group ++ m ∷ []) ≡ b → (is_assignable (group ++ m ∷ []) ≡ true → Cut (group ++ m ∷ []) number ms) → Cut (m ∷ []) (number + 1) ms → Cut group number (m ∷ ms)
  go true joins with_it new =
      let c = with_it joins in
      record {
        more = m ∷ c.more;
        rest = c.rest;
        longest = longest_first ((group ++ m ∷ []) ++ c.more) (group ++ m ∷ c.more) c.rest (append_assoc group (m ∷ []) c.more) c.longest;
        whole = ap (λ xs. m ∷ xs) c.whole;
        numbers = ap (step group number m ms) joins ∙ ap (λ xs. number ∷ xs) c.numbers;
      }
  go false joins with_it new =
      let same : group ++ [] ≡ group = append-nil group in
      record {
        more = [];
        rest = (m ∷ new.more) ∷ new.rest;
        longest = (ap is_assignable same ∙ fits, ap (λ g. is_assignable (g ++ m ∷ [])) same ∙ joins, new.longest);
        whole = ap (λ xs. m ∷ xs) new.whole;
        numbers = ap (step group number m ms) joins ∙ ap (λ xs. (number + 1) ∷ xs) new.numbers;
      }

good_of : (masks : List ℕ) → ((i : ℕ) → i < length masks → get_or masks i 0 < 2 ^ 32) → ((i d : ℕ) → i < length masks → 0 < get_or masks i d) → Good masks
good_of [] small some = tt
good_of (m ∷ ms) small some = (
  is_assignable_one m (some 0 m (omega arith)) (small 0 (omega arith)),
  good_of ms (λ i b. small (suc i) (omega arith)) (λ i d b. some (suc i) d (omega arith)),
)

pub groups_are_parts : GroupsAreParts
groups_are_parts [] small some = record { parts = []; whole = refl; longest = tt; numbers_are = refl }
groups_are_parts (m ∷ ms) small some =
    let good : Good (m ∷ ms) = good_of (m ∷ ms) small some in
    let c = cut (m ∷ []) 0 ms good.0 good.1 in
    record {
      parts = (m ∷ c.more) ∷ c.rest;
      whole = ap (λ xs. m ∷ xs) c.whole;
      longest = c.longest;
      numbers_are = ap (step [] 0 m ms) good.0 ∙ ap (λ xs. 0 ∷ xs) c.numbers;
    }
