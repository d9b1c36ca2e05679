-- Natives that are among others.
use Rattle.event_sets.proofs.Words.{◌≡◌, ◌≢◌, ◌∙◌, ◌∷◌, ◌<◌, ◌≤◌, ◌||◌, ℕ, zero, suc, Bool, true, false, List, [], length, map, refl, sym, ap, subst}
use Rattle.event_sets.proofs.Words.{arith, slice_get, slice_index, Some, All, if◌then◌else◌, position_or_len, get_or-map, length-map}
use Rattle.event_sets.proofs.Words.{slice_get_within, get_or_from_slice_get, Native, Assignable, Has, masks_of, among, same_native, native_is}
use Rattle.event_sets.proofs.Agreeing.{first_place, numbered}

abbrev pub AreDistinct : List Native → Type 0
AreDistinct ns = (i j : ℕ) (n : Native) → slice_get ns i ≡ Some n → slice_get ns j ≡ Some n → i ≡ j

abbrev pub AreAmong : List Native → List Native → Type 0
AreAmong ns all = (i : ℕ) (n : Native) → slice_get ns i ≡ Some n → among n all ≡ true

-- what holds of all holds of one among them
pub of_among : (P : Native → Type 0) (all : List Native) (n : Native) → All P all → among n all ≡ true → P n
of_among P all n h e = go all e (λ i m q. numbered P all h i m q) where
  go : (ms : List Native) → among n ms ≡ true → ((i : ℕ) (m : Native) → slice_get ms i ≡ Some m → P m) → P n
  go [] q f = cc q
  go (m ∷ ms) q f = at (go ms) (same_native n m) refl q where
    at : (among n ms ≡ true → ((i : ℕ) (k : Native) → slice_get ms i ≡ Some k → P k) → P n) → (b : Bool) → same_native n m ≡ b → (b || among n ms) ≡ true → P n
    at rest true s r = subst P (sym (native_is n m s)) (f 0 m refl)
    at rest false s r = rest r (λ i k g. f (suc i) k g)

-- ---- there are no more than of the others

-- the list without the first that is the same
without : Native → List Native → List Native
without x [] = []
without x (y ∷ ys) = if same_native x y then ys else y ∷ without x ys

one_less : (x : Native) (ys : List Native) → among x ys ≡ true → suc (length (without x ys)) ≡ length ys
unfolding without
one_less x [] h = cc h
one_less x (y ∷ ys) h = go (one_less x ys) (same_native x y) refl h where
  go : (among x ys ≡ true → suc (length (without x ys)) ≡ length ys) → (b : Bool) → same_native x y ≡ b → (b || among x ys) ≡ true → suc (length (if b then ys else y ∷ without x ys)) ≡ length (y ∷ ys)
  go rest true e k = refl
  go rest false e k = ap suc (rest k)

still_among : (x z : Native) (ys : List Native) → z ≢ x → among z ys ≡ true → among z (without x ys) ≡ true
unfolding without
still_among x z [] apart h = cc h
still_among x z (y ∷ ys) apart h = go (still_among x z ys apart) (same_native x y) (same_native z y) refl refl h where
  go : (among z ys ≡ true → among z (without x ys) ≡ true) → (b c : Bool) → same_native x y ≡ b → same_native z y ≡ c → (c || among z ys) ≡ true → among z (if b then ys else y ∷ without x ys) ≡ true
  go rest true true e f k = absurd (apart (native_is z y f ∙ sym (native_is x y e)))
  go rest true false e f k = k
  go rest false true e f k = rw f refl
  go rest false false e f k = rw f (rest k)

pub no_more : (xs ys : List Native) → AreDistinct xs → AreAmong xs ys → length xs ≤ length ys
no_more [] ys apart h = omega arith
no_more (x ∷ xs) ys apart h =
    let less = one_less x ys (h 0 x refl) in
    let rest : length xs ≤ length (without x ys) = no_more xs (without x ys)
    (λ i j n e f. let next : suc i ≡ suc j = apart (suc i) (suc j) n e f in omega (arith, next))
    (λ i n e. still_among x n ys (λ q. let clash : suc i ≡ 0 = apart (suc i) 0 n e (ap Some (sym q)) in absurd (omega (arith, clash))) (h (suc i) n e)) in
    omega (arith, less, rest)

-- ---- counters of their own go over to them

place : Native → List Native → ℕ
place n all = position_or_len (same_native n) all

place_is : (n : Native) (all : List Native) → among n all ≡ true → slice_get all (place n all) ≡ Some n
unfolding place
place_is n all h = first_place (same_native n) n (native_is n) all h

pub mask_at : (ns : List Native) (i : ℕ) (n : Native) → slice_get ns i ≡ Some n → slice_index (masks_of ns) i ≡ n.allowed
mask_at [] i n e = cc e
mask_at (m ∷ ns) zero n e = let same : m ≡ n = cc in ap (λ (x : Native). x.allowed) same
mask_at (m ∷ ns) (suc i) n e = mask_at ns i n e

pub sub_assignable : (ns all : List Native) → AreDistinct ns → AreAmong ns all → Assignable (masks_of all) → Assignable (masks_of ns)
sub_assignable ns all apart h a = (
  chosen,
  record {
    one_each = length-map ns f ∙ sym (length-map ns (λ n. n.allowed));
    is_allowed = λ i below.
        let at = one i below in
        let mask : slice_index (masks_of ns) i ≡ slice_index (masks_of all) (place at.0 all) = mask_at ns i at.0 at.1 ∙ sym (mask_at all (place at.0 all) at.0 (spot i at.0 at.1)) in
        subst (λ m. Has m (slice_index chosen i)) (sym mask)
        (subst (λ c. Has (slice_index (masks_of all) (place at.0 all)) c) (sym (chosen_at i at.0 at.1))
        (a.1.is_allowed (place at.0 all) (inside i at.0 at.1)));
    distinct = λ i j below under e.
        let at = one i below in
        let to = one j under in
        let spots : place at.0 all ≡ place to.0 all = a.1.distinct (place at.0 all) (place to.0 all) (inside i at.0 at.1) (inside j to.0 to.1)
        (sym (chosen_at i at.0 at.1) ∙ (e ∙ chosen_at j to.0 to.1)) in
        let both : Some at.0 ≡ Some to.0 = sym (spot i at.0 at.1) ∙ (ap (slice_get all) spots ∙ spot j to.0 to.1) in
        let same : at.0 ≡ to.0 = cc both in
        apart i j at.0 at.1 (to.1 ∙ ap Some (sym same));
  },
) where
  f : Native → ℕ
  f n = slice_index a.0 (place n all)

  chosen : List ℕ
  chosen = map f ns

  one : (i : ℕ) → i < length (masks_of ns) → (n : Native) × (slice_get ns i ≡ Some n)
  one i below = there ns i (omega (arith, below, length-map ns (λ n. n.allowed))) where
    there : (xs : List Native) (k : ℕ) → k < length xs → (n : Native) × (slice_get xs k ≡ Some n)
    there [] k b = absurd (omega (arith, b))
    there (x ∷ xs) zero b = (x, refl)
    there (x ∷ xs) (suc k) b = there xs k (omega (arith, b))

  spot : (i : ℕ) (n : Native) → slice_get ns i ≡ Some n → slice_get all (place n all) ≡ Some n
  spot i n e = place_is n all (h i n e)

  inside : (i : ℕ) (n : Native) → slice_get ns i ≡ Some n → place n all < length (masks_of all)
  inside i n e = omega (arith, slice_get_within all (place n all) n (spot i n e), length-map all (λ m. m.allowed))

  chosen_at : (i : ℕ) (n : Native) → slice_get ns i ≡ Some n → slice_index chosen i ≡ f n
  chosen_at i n e = get_or-map f ns i n 0 (slice_get_within ns i n e) ∙ ap f (get_or_from_slice_get ns i n n e)
