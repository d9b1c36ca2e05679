-- Natives that join a list one by one are those of the whole list at their first mention.
use Rattle.event_sets.proofs.Words.{arith, nat_tests, ◌≡◌, Bool, true, false, ◌||◌, ◌&&◌, not, List, [], ◌∷◌, ◌++◌, refl, sym, ap, ◌∙◌, if◌then◌else◌}
use Rattle.event_sets.proofs.Words.{filter, flat_map, list_any-append, append-nil, append_assoc, Native, EventRef, Book, natives_after}
use Rattle.event_sets.proofs.Words.{natives_of_event, among, joined_by, same_native, native_is, joined-append, NativesAreFirsts, firsts}

-- one filter after another is the filter by both
filters_join : (p q r : Native → Bool) → ((m : Native) → r m ≡ (q m && p m)) → (xs : List Native) → filter p (filter q xs) ≡ filter r xs
filters_join p q r both [] = refl
filters_join p q r both (x ∷ xs) = grind (arith, nat_tests, filters_join p q r both xs)

filter_none : (xs : List Native) → filter (λ m. not (among m [])) xs ≡ xs
filter_none [] = refl
filter_none (x ∷ xs) = ap (λ ys. x ∷ ys) (filter_none xs)

-- a native that is there, and those equal to it, are left out anyway
old_left_out : (seen : List Native) (n m : Native) → among n seen ≡ true → not (among m seen) ≡ (not (same_native m n) && not (among m seen))
old_left_out seen n m there = by (same_native m n) refl
  where
    by : (b : Bool) → same_native m n ≡ b → not (among m seen) ≡ (not b && not (among m seen))
    by true s = ap not (ap (λ (x : Native). among x seen) (native_is m n s) ∙ there)
    by false s = refl

-- with one more that is there, those equal to it are left out
new_left_out : (seen : List Native) (n m : Native) → not (among m (seen ++ n ∷ [])) ≡ (not (same_native m n) && not (among m seen))
new_left_out seen n m = ap not (list_any-append (same_native m) seen (n ∷ [])) ∙ by (among m seen) (same_native m n)
  where
    by : (a s : Bool) → not (a || (s || false)) ≡ (not s && not a)
    by true true = refl
    by true false = refl
    by false true = refl
    by false false = refl

joined_is : (seen more : List Native) → joined_by seen more ≡ seen ++ filter (λ m. not (among m seen)) (firsts more)
joined_is seen [] = sym (append-nil seen)
joined_is seen (n ∷ more) = by (joined_is seen more) (joined_is (seen ++ n ∷ []) more) (among n seen) refl
  where
    others : List Native
    others = filter (λ m. not (same_native m n)) (firsts more)

    by : joined_by seen more ≡ seen ++ filter (λ m. not (among m seen)) (firsts more)
        → joined_by (seen ++ n ∷ []) more ≡ (seen ++ n ∷ []) ++ filter (λ m. not (among m (seen ++ n ∷ []))) (firsts more)
        → (b : Bool) → among n seen ≡ b
        → joined_by (if b then seen else seen ++ n ∷ []) more ≡ seen ++ (if not b then n ∷ filter (λ m. not (among m seen)) others else filter (λ m. not (among m seen)) others)
    by old new true there = old ∙ ap (λ ys. seen ++ ys) (sym (filters_join _ _ (λ m. not (among m seen)) (λ m. old_left_out seen n m there) (firsts more)))
    by old new false missing =
        new
        ∙ append_assoc seen (n ∷ []) _
        ∙ ap (λ ys. seen ++ n ∷ ys) (sym (filters_join _ _ (λ m. not (among m (seen ++ n ∷ []))) (λ m. new_left_out seen n m) (firsts more)))

after_is : (book : Book) (seen : List Native) (es : List EventRef) → natives_after book seen es ≡ joined_by seen (flat_map (natives_of_event book) es)
after_is book seen [] = refl
after_is book seen (e ∷ es) = after_is book (joined_by seen (natives_of_event book e)) es ∙ sym (joined-append seen (natives_of_event book e) (flat_map (natives_of_event book) es))

pub natives_are_firsts : NativesAreFirsts
natives_are_firsts book events = after_is book [] events ∙ joined_is [] (flat_map (natives_of_event book) events) ∙ filter_none (firsts (flat_map (natives_of_event book) events))
