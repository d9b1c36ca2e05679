-- What a set that was never stopped shows of the counts up to a position.
use Rattle.call_laws.proofs.Words.{◌≡◌, ℕ, zero, suc, pos, List, [], ◌∷◌, map, take, refl, ap, ap₂, arith, Option, Some}
use Rattle.call_laws.proofs.Words.{EventRef, Native, Occ, Book, event_value, natives_of_event, rule_of_event, rule_value, AtRest, new_set}
use Rattle.call_laws.proofs.Words.{along, count, values_of, count_between, value_at}
use Rattle.call_laws.proofs.Opened.{counting_set, domain_with, events_with, slice_with, with_events}

along_take : (weigh : Option Occ → Occ → ℕ) (before : Option Occ) (os : List Occ) (q : ℕ) → along weigh before (take q os) ≡ take q (along weigh before os)
along_take weigh before os zero = refl
along_take weigh before [] (suc q) = refl
along_take weigh before (o ∷ os) (suc q) = ap (λ ws. weigh before o ∷ ws) (along_take weigh (Some o) os q)

counted : (tape : List Occ) (q : ℕ) (s : AtRest) (n : Native) → s.domain ≡ new_set.domain → count (take q tape) (counting_set s) n ≡ count_between tape 0 q n
counted tape q s n e = grind (arith, along_take)

same_counts : (f g : Native → ℕ) → ((n : Native) → f n ≡ g n) → (ns : List Native) → map (λ n. pos (f n)) ns ≡ map (λ n. pos (g n)) ns
same_counts f g e [] = refl
same_counts f g e (n ∷ ns) = ap₂ (λ c cs. pos c ∷ cs) (e n) (same_counts f g e ns)

same_value : (book : Book) (f g : Native → ℕ) → ((n : Native) → f n ≡ g n) → (x : EventRef) → event_value book f x ≡ event_value book g x
same_value book f g e x = ap (rule_value (rule_of_event book x)) (same_counts f g e (natives_of_event book x))

same_values : (book : Book) (f g : Native → ℕ) → ((n : Native) → f n ≡ g n) → (xs : List EventRef) → map (event_value book f) xs ≡ map (event_value book g) xs
same_values book f g e [] = refl
same_values book f g e (x ∷ xs) = ap₂ (λ v vs. v ∷ vs) (same_value book f g e x) (same_values book f g e xs)

-- the set of the events shows their values up to the position
pub shown : (book : Book) (tape : List Occ) (q : ℕ) (events : List EventRef)
    → values_of book (take q tape) (counting_set (with_events book new_set events)) ≡ map (value_at book tape q) events
shown book tape q events = grind (arith, with_events, counting_set, slice_with, events_with, same_values, counted, domain_with)
