-- Natives of events, by induction on the events and on the natives that join.
use Rattle.std.proofs.Common.{◌≡◌, inl, inr, ℕ, zero, suc, Bool, true, false, ◌||◌, List, [], ◌∷◌, ◌++◌, length, take, refl, sym, ◌∙◌, ap, arith, slice_get, Some, length-append, take-take}
use Rattle.postfix_rules.proofs.Words.{if◌then◌else◌, list_any-append, take-length, take-append_seam, or_right, or_left, Native, EventRef}
use Rattle.postfix_rules.proofs.Words.{same_native, joined_by, among, Book, natives_of, natives_of_event, natives_after, OneMoreJoins, EarlierStay}
use Rattle.postfix_rules.proofs.Words.{EachIsAmong, NoneTwice}
use Rattle.postfix_rules.proofs.Equal.{native_is, native_self}
use Rattle.postfix_rules.proofs.Places.{get_pushed}

after-append : (book : Book) (seen : List Native) (es : List EventRef) (e : EventRef) → natives_after book seen (es ++ e ∷ []) ≡ joined_by (natives_after book seen es) (natives_of_event book e)
after-append book seen [] e = refl
after-append book seen (x ∷ es) e = after-append book (joined_by seen (natives_of_event book x)) es e

pub one_more_joins : OneMoreJoins
one_more_joins book es e = after-append book [] es e

-- a list with one that may be new begins with the list
next_begins : (b : Bool) (n : Native) (seen more : List Native) → take (length (if b then seen else seen ++ n ∷ [])) more ≡ (if b then seen else seen ++ n ∷ []) → take (length seen) more ≡ seen
next_begins true n seen more h = h
next_begins false n seen more h =
    sym (take-take (length seen) (length (seen ++ n ∷ [])) more (omega (arith, length-append seen (n ∷ []))))
    ∙ (ap (take (length seen)) h ∙ take-append_seam seen (n ∷ []))

joined_begins : (seen more : List Native) → take (length seen) (joined_by seen more) ≡ seen
joined_begins seen [] = take-length seen
joined_begins seen (n ∷ more) = next_begins (among n seen) n seen (joined_by (if among n seen then seen else seen ++ n ∷ []) more) (joined_begins (if among n seen then seen else seen ++ n ∷ []) more)

pub earlier_stay : EarlierStay
earlier_stay book es e = ap (take (length (natives_of book es))) (one_more_joins book es e) ∙ joined_begins (natives_of book es) (natives_of_event book e)

next_among : (b : Bool) (m n : Native) (seen : List Native) → among m seen ≡ true → among m (if b then seen else seen ++ n ∷ []) ≡ true
next_among true m n seen h = h
next_among false m n seen h = list_any-append (same_native m) seen (n ∷ []) ∙ or_left (among m seen) (among m (n ∷ [])) h

joined_among : (m : Native) (seen more : List Native) → among m seen ≡ true → among m (joined_by seen more) ≡ true
joined_among m seen [] h = h
joined_among m seen (n ∷ more) h = joined_among m (if among n seen then seen else seen ++ n ∷ []) more (next_among (among n seen) m n seen h)

-- the one that may be new is there
next_has : (b : Bool) (n : Native) (seen : List Native) → among n seen ≡ b → among n (if b then seen else seen ++ n ∷ []) ≡ true
next_has true n seen h = h
next_has false n seen h = list_any-append (same_native n) seen (n ∷ []) ∙ or_right (among n seen) (among n (n ∷ [])) (or_left (same_native n n) false (native_self n))

joined_has : (m : Native) (seen more : List Native) → among m more ≡ true → among m (joined_by seen more) ≡ true
joined_has m seen [] h = cc
joined_has m seen (n ∷ more) h = go (λ s. joined_has m s more) (same_native m n) refl h where
  go : ((s : List Native) → among m more ≡ true → among m (joined_by s more) ≡ true) → (b : Bool) → same_native m n ≡ b → (b || among m more) ≡ true
      → among m (joined_by (if among n seen then seen else seen ++ n ∷ []) more) ≡ true
  go later true q k = joined_among m (if among n seen then seen else seen ++ n ∷ []) more
      (ap (λ x. among x (if among n seen then seen else seen ++ n ∷ [])) (native_is m n q) ∙ next_has (among n seen) n seen refl)
  go later false q k = later (if among n seen then seen else seen ++ n ∷ []) k

after_among : (book : Book) (m : Native) (seen : List Native) (es : List EventRef) → among m seen ≡ true → among m (natives_after book seen es) ≡ true
after_among book m seen [] h = h
after_among book m seen (e ∷ es) h = after_among book m (joined_by seen (natives_of_event book e)) es (joined_among m seen (natives_of_event book e) h)

after_has : (book : Book) (m : Native) (seen : List Native) (es : List EventRef) (i : ℕ) (e : EventRef) → slice_get es i ≡ Some e
    → among m (natives_of_event book e) ≡ true → among m (natives_after book seen es) ≡ true
after_has book m seen [] i e g h = cc
after_has book m seen (x ∷ es) zero e g h =
    let same : x ≡ e = cc in
    after_among book m (joined_by seen (natives_of_event book x)) es (joined_has m seen (natives_of_event book x) (ap (λ y. among m (natives_of_event book y)) same ∙ h))
after_has book m seen (x ∷ es) (suc i) e g h = after_has book m (joined_by seen (natives_of_event book x)) es i e g h

pub each_is_among : EachIsAmong
each_is_among book es i e n g h = after_has book n [] es i e g h

-- no native stands twice
abbrev Distinct : List Native → Type 0
Distinct ns = (i j : ℕ) (n : Native) → slice_get ns i ≡ Some n → slice_get ns j ≡ Some n → i ≡ j

pub is_among : (n : Native) (ns : List Native) (i : ℕ) → slice_get ns i ≡ Some n → among n ns ≡ true
is_among n [] i h = cc
is_among n (m ∷ ns) zero h = let same : m ≡ n = cc in rw (same, native_self n) refl
is_among n (m ∷ ns) (suc i) h = or_right (same_native n m) (among n ns) (is_among n ns i h)

next_distinct : (b : Bool) (n : Native) (seen : List Native) → among n seen ≡ b → Distinct seen → Distinct (if b then seen else seen ++ n ∷ [])
next_distinct true n seen new h = h
next_distinct false n seen new h = λ i j m a b. elim (get_pushed seen n i m a) [
  | inl a' ↦ elim (get_pushed seen n j m b) [ inl b' ↦ h i j m a' b' | inr b' ↦ absurd (twice i m a' b'.1) ]
  | inr a' ↦ elim (get_pushed seen n j m b) [ inl b' ↦ absurd (twice j m b' a'.1) | inr b' ↦ a'.0 ∙ sym b'.0 ]
]
  where
    twice : (i : ℕ) (m : Native) → slice_get seen i ≡ Some m → n ≡ m → ⊥
    twice i m a q = let is : among n seen ≡ true = is_among n seen i (a ∙ ap Some (sym q)) in cc

joined_distinct : (seen more : List Native) → Distinct seen → Distinct (joined_by seen more)
joined_distinct seen [] h = h
joined_distinct seen (n ∷ more) h = joined_distinct (if among n seen then seen else seen ++ n ∷ []) more (next_distinct (among n seen) n seen refl h)

after_distinct : (book : Book) (seen : List Native) (es : List EventRef) → Distinct seen → Distinct (natives_after book seen es)
after_distinct book seen [] h = h
after_distinct book seen (e ∷ es) h = after_distinct book (joined_by seen (natives_of_event book e)) es (joined_distinct seen (natives_of_event book e) h)

pub none_twice : NoneTwice
none_twice book es = after_distinct book [] es (λ i j n a b. cc)

-- two lists join one after the other
pub joined-append : (seen xs ys : List Native) → joined_by seen (xs ++ ys) ≡ joined_by (joined_by seen xs) ys
joined-append seen [] ys = refl
joined-append seen (x ∷ xs) ys = joined-append (if among x seen then seen else seen ++ x ∷ []) xs ys
