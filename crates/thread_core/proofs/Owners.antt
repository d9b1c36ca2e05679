-- Which set runs on a component, and the units and places if one place is put anew.
use Rattle.thread_core.proofs.Words.{Book, Widths, List, Occ, Option, Kept, map, option_map, face_of_slot, slots_of, ◌≡◌, faces_of, [], refl, None, ◌∷◌, ap}
use Rattle.thread_core.proofs.Words.{Some, face_of, ℕ, runs_on, false, option_map_or, ◌==◌, true, eqb-true, ap₂, Bool, ◌&&◌, ◌∙◌, eq-eqb, here, both}
use Rattle.thread_core.proofs.Words.{if◌then◌else◌, Face, owner_from, slice_get, zero, sym, suc, ◌+◌, cond-false, cases_Bool, inl, cond-true, arith, inr}
use Rattle.thread_core.proofs.Words.{sum_by-append, ◌≤◌, at, same_some, get-map_some, AreApart, runner, option_and_then, some-at, slice_set, cases_eq}
use Rattle.thread_core.proofs.Words.{get-set_same, slice_get_within, subst, get-set_other, runs, count_by, cond, ◌<◌, length, units_from, unit_at, units_of}
use Rattle.thread_core.proofs.Words.{registers_by, same_items, is_counting, counting_by, slot_of}

-- a set runs in the core if it does in the account
runs_same : (book : Book) (past : List Occ) (s : Kept) (b : Bool) (m : Option ℕ) → is_counting (counting_by book past s b m) ≡ b
runs_same book past s false m = refl
runs_same book past s true None = refl
runs_same book past s true (Some slice) = refl

pub face_same : (book : Book) (shape : Widths) (past : List Occ) (s : Kept) → face_of_slot (slot_of book shape past s) ≡ face_of s
face_same book shape past s = ap (λ (b : Bool). record (face_of s) { running = b }) (runs_same book past s s.running s.set.slice)

-- what refusals look at is the same in the core and in the account
pub faces_same : (book : Book) (shape : Widths) (past : List Occ) (sets : List (Option Kept))
    → map (option_map face_of_slot) (slots_of book shape past sets) ≡ faces_of sets
faces_same book shape past [] = refl
faces_same book shape past (None ∷ sets) = ap (λ fs. None ∷ fs) (faces_same book shape past sets)
faces_same book shape past (Some s ∷ sets) =
    ap₂ (λ (f : Face) (fs : List (Option Face)). Some f ∷ fs) (face_same book shape past s) (faces_same book shape past sets)

-- what is in a place does not run on the component
abbrev pub IsQuiet : ℕ → Option Kept → Type 0
IsQuiet comp place = runs_on (Some comp) (option_map face_of place) ≡ false

of_component : (comp : ℕ) (c : Option ℕ) → option_map_or (λ x. x == comp) c false ≡ true → c ≡ Some comp
of_component comp None h = cc
of_component comp (Some c) h = ap Some (eqb-true c comp h)

pub runs_there : (s : Kept) (comp : ℕ) → s.running ≡ true → s.set.component ≡ Some comp → runs_on (Some comp) (Some (face_of s)) ≡ true
runs_there s comp run is = ap₂ (λ (b : Bool) (c : Option ℕ). b && option_map_or (λ x. x == comp) c false) run is ∙ eq-eqb comp comp refl

there_runs : (s : Kept) (comp : ℕ) → runs_on (Some comp) (Some (face_of s)) ≡ true → (s.running ≡ true) × (s.set.component ≡ Some comp)
there_runs s comp here =
    let parts = both s.running (option_map_or (λ x. x == comp) s.set.component false) here in
    (parts.0, of_component comp s.set.component parts.1)

pub quiet_stopped : (s : Kept) (comp : ℕ) → s.running ≡ false → IsQuiet comp (Some s)
quiet_stopped s comp stopped = ap (λ b. b && option_map_or (λ c. c == comp) s.set.component false) stopped

pub quiet_other : (s : Kept) (comp : ℕ) → (s.set.component ≡ Some comp → ⊥) → IsQuiet comp (Some s)
quiet_other s comp apart = go (runs_on (Some comp) (Some (face_of s))) refl where
  go : (b : Bool) → runs_on (Some comp) (Some (face_of s)) ≡ b → b ≡ false
  go true here = absurd (apart (there_runs s comp here).1)
  go false here = refl

-- a face that does not run on the component is not the first one that does
later : (b : Bool) (number : ℕ) (o : Option ℕ) → (if b then Some number else o) ≡ None → (b ≡ false) × (o ≡ None)
later true number o h = cc
later false number o h = (refl, h)

quiet_from : (comp number : ℕ) (faces : List (Option Face)) (i : ℕ) (f : Option Face) → owner_from comp number faces ≡ None → slice_get faces i ≡ Some f → runs_on (Some comp) f ≡ false
quiet_from comp number [] i f h e = cc
quiet_from comp number (g ∷ faces) zero f h e = let same : g ≡ f = cc in ap (runs_on (Some comp)) (sym same) ∙ (later (runs_on (Some comp) g) number _ h).0
quiet_from comp number (g ∷ faces) (suc i) f h e = quiet_from comp (number + 1) faces i f (later (runs_on (Some comp) g) number _ h).1 e

pub owner_from-none : (comp number : ℕ) (faces : List (Option Face)) → ((i : ℕ) (f : Option Face) → slice_get faces i ≡ Some f → runs_on (Some comp) f ≡ false) → owner_from comp number faces ≡ None
owner_from-none comp number [] h = refl
owner_from-none comp number (x ∷ faces) h = cond-false (runs_on (Some comp) x) (Some number) (owner_from comp (number + 1) faces) (h 0 x refl) ∙ owner_from-none comp (number + 1) faces (λ i f e. h (suc i) f e)

-- the one that is found runs on the component
owner_runs : (comp number : ℕ) (faces : List (Option Face)) (k : ℕ) → owner_from comp number faces ≡ Some k → (i : ℕ) × (k ≡ number + i) × (f : Option Face) × (slice_get faces i ≡ Some f) × (runs_on (Some comp) f ≡ true)
owner_runs comp number [] k h = cc
owner_runs comp number (g ∷ faces) k h = elim (cases_Bool (runs_on (Some comp) g)) [
  | inl here ↦
      let found : Some number ≡ Some k = sym (cond-true (runs_on (Some comp) g) (Some number) (owner_from comp (number + 1) faces) here) ∙ h in
      let same : number ≡ k = cc in
      (0, omega arith, g, refl, here)
  | inr none ↦
      let o = owner_runs comp (number + 1) faces k (sym (cond-false (runs_on (Some comp) g) (Some number) (owner_from comp (number + 1) faces) none) ∙ h) in
      (suc o.0, omega (arith, o.1), o.2, o.3, o.4)
]

-- at most one item meets the test
count-cons : {X : Type 0} (p : X → Bool) (x : X) (xs : List X) → count_by p (x ∷ xs) ≡ cond (p x) 1 0 + count_by p xs
count-cons p x xs = sum_by-append (λ y. cond (p y) 1 0) (x ∷ []) xs ∙ omega arith

counted_one : {X : Type 0} (p : X → Bool) (xs : List X) (i : ℕ) (x : X) → slice_get xs i ≡ Some x → p x ≡ true → 1 ≤ count_by p xs
counted_one p [] i x e h = cc
counted_one p (y ∷ xs) zero x e h =
    let same : y ≡ x = cc in
    let one : cond {A = ℕ} (p y) 1 0 ≡ 1 = cond-true (p y) 1 0 (ap p same ∙ h) in
    omega (arith, count-cons p y xs, one)
counted_one p (y ∷ xs) (suc i) x e h = let rest = counted_one p xs i x e h in omega (arith, count-cons p y xs)

no_other : {X : Type 0} (p : X → Bool) (z : X) (xs : List X) (j : ℕ) (y : X) → count_by p (z ∷ xs) ≤ 1 → p z ≡ true → slice_get xs j ≡ Some y → p y ≡ true → ⊥
no_other p z xs j y most g f h =
    let one : cond {A = ℕ} (p z) 1 0 ≡ 1 = cond-true (p z) 1 0 g in
    let rest = counted_one p xs j y f h in
    omega (arith, count-cons p z xs, one)

pub one_meets : {X : Type 0} (p : X → Bool) (xs : List X) (i j : ℕ) (x y : X) → count_by p xs ≤ 1
    → slice_get xs i ≡ Some x → slice_get xs j ≡ Some y → p x ≡ true → p y ≡ true → i ≡ j
one_meets p [] i j x y most e f g h = cc
one_meets p (z ∷ xs) zero zero x y most e f g h = refl
one_meets p (z ∷ xs) zero (suc j) x y most e f g h = let same : z ≡ x = cc in absurd (no_other p z xs j y most (ap p same ∙ g) f h)
one_meets p (z ∷ xs) (suc i) zero x y most e f g h = let same : z ≡ y = cc in absurd (no_other p z xs i x most (ap p same ∙ h) e g)
one_meets p (z ∷ xs) (suc i) (suc j) x y most e f g h = ap suc (one_meets p xs i j x y (omega (arith, count-cons p z xs)) e f g h)

-- a set that runs on a component
pub record Runs (sets : List (Option Kept)) (comp k : ℕ) : Type 0 where
  pub set : Kept
  pub at : slice_get sets k ≡ Some (Some set)
  pub here : runs_on (Some comp) (Some (face_of set)) ≡ true
  pub running : set.running ≡ true
  pub component : set.set.component ≡ Some comp

-- the items of a list whose items are changed
map_item : {X Y : Type 0} (f : X → Y) (xs : List X) (i : ℕ) (y : Y) → slice_get (map f xs) i ≡ Some y → (x : X) × (slice_get xs i ≡ Some x) × (f x ≡ y)
map_item f [] i y e = cc
map_item f (x ∷ xs) zero y e = (x, refl, same_some (f x) y e)
map_item f (x ∷ xs) (suc i) y e = map_item f xs i y e

pub runs_by : (sets : List (Option Kept)) (comp k : ℕ) → owner_from comp 0 (faces_of sets) ≡ Some k → Runs sets comp k
runs_by sets comp k e =
    let o = owner_runs comp 0 (faces_of sets) k e in
    let same : o.0 ≡ k = omega (arith, o.1) in
    let p = map_item (option_map face_of) sets o.0 o.2 o.3 in
    of p.0 (ap (slice_get sets) (sym same) ∙ p.1) (ap (runs_on (Some comp)) p.2 ∙ o.4) where
      of : (place : Option Kept) → slice_get sets k ≡ Some place → runs_on (Some comp) (option_map face_of place) ≡ true → Runs sets comp k
      of None at here = cc
      of (Some s) at here = let parts = there_runs s comp here in record { set = s; at = at; here = here; running = parts.0; component = parts.1 }

pub quiet_none : (sets : List (Option Kept)) (comp i : ℕ) (p : Option Kept) → owner_from comp 0 (faces_of sets) ≡ None → slice_get sets i ≡ Some p → IsQuiet comp p
quiet_none sets comp i p none e = quiet_from comp 0 (faces_of sets) i (option_map face_of p) none (get-map_some (option_map face_of) sets i p e)

-- no other set runs on it
pub other_runs : (sets : List (Option Kept)) (comp j k : ℕ) (s t : Kept) → AreApart (faces_of sets) → slice_get sets j ≡ Some (Some s) → slice_get sets k ≡ Some (Some t) → runs_on (Some comp) (Some (face_of s)) ≡ true → runs_on (Some comp) (Some (face_of t)) ≡ true → j ≡ k
other_runs sets comp j k s t apart e f g h = one_meets (runs_on (Some comp)) (faces_of sets) j k (Some (face_of s)) (Some (face_of t)) (apart.each comp) (get-map_some (option_map face_of) sets j (Some s) e) (get-map_some (option_map face_of) sets k (Some t) f) g h

-- the set that runs on a component is found, and none if none does
pub runner-some : (sets : List (Option Kept)) (comp k : ℕ) (s : Kept) → owner_from comp 0 (faces_of sets) ≡ Some k → slice_get sets k ≡ Some (Some s) → runner comp sets ≡ Some s
runner-some sets comp k s e f = ap (option_and_then (at sets)) e ∙ some-at sets k s f

pub runner-none : (sets : List (Option Kept)) (comp : ℕ) → owner_from comp 0 (faces_of sets) ≡ None → runner comp sets ≡ None
runner-none sets comp e = ap (option_and_then (at sets)) e

pub runner_is : (sets : List (Option Kept)) (k comp : ℕ) (s : Kept) → AreApart (faces_of sets) → slice_get sets k ≡ Some (Some s) → runs_on (Some comp) (Some (face_of s)) ≡ true → runner comp sets ≡ Some s
runner_is sets k comp s apart e here = go (owner_from comp 0 (faces_of sets)) refl where
  go : (m : Option ℕ) → owner_from comp 0 (faces_of sets) ≡ m → runner comp sets ≡ Some s
  go None q = let both : true ≡ false = sym here ∙ quiet_none sets comp k (Some s) q e in cc
  go (Some j) q =
      let r = runs_by sets comp j q in
      let same : j ≡ k = other_runs sets comp j k r.set s apart r.at e r.here here in
      runner-some sets comp k s (q ∙ ap Some same) e

pub none_runs : (sets : List (Option Kept)) (comp : ℕ) → ((i : ℕ) (p : Option Kept) → slice_get sets i ≡ Some p → IsQuiet comp p) → runner comp sets ≡ None
none_runs sets comp quiet = runner-none sets comp (owner_from-none comp 0 (faces_of sets) (λ i f e. let p = map_item (option_map face_of) sets i f e in ap (runs_on (Some comp)) (sym p.2) ∙ quiet i p.0 p.1))

-- what holds of what is put in a place, and of what is in each other place, holds of all places
put_cases : (P : Option Kept → Type 0) (sets : List (Option Kept)) (k : ℕ) (t place : Option Kept) → slice_get sets k ≡ Some place → P t
    → ((i : ℕ) (p : Option Kept) → (i ≡ k → ⊥) → slice_get sets i ≡ Some p → P p) → (i : ℕ) (p : Option Kept) → slice_get (slice_set sets k t) i ≡ Some p → P p
put_cases P sets k t place e new others i p f = elim (cases_eq i k) [
  | inl same ↦
      let here = get-set_same sets k t (slice_get_within sets k place e) in
      subst P (same_some t p (sym here ∙ ap (slice_get (slice_set sets k t)) (sym same) ∙ f)) new
  | inr other ↦ others i p other (sym (get-set_other sets k i t other) ∙ f)
]

-- if one place is put anew, which set runs on a component stays, if neither what was there nor what comes there does
pub runner_same : (sets : List (Option Kept)) (k comp : ℕ) (t place : Option Kept) → AreApart (faces_of (slice_set sets k t))
    → slice_get sets k ≡ Some place → IsQuiet comp place → IsQuiet comp t → runner comp (slice_set sets k t) ≡ runner comp sets
runner_same sets k comp t place apart e quiet new = go (owner_from comp 0 (faces_of sets)) refl where
  go : (m : Option ℕ) → owner_from comp 0 (faces_of sets) ≡ m → runner comp (slice_set sets k t) ≡ runner comp sets
  go None q =
      none_runs (slice_set sets k t) comp (put_cases (IsQuiet comp) sets k t place e new (λ i p other f. quiet_none sets comp i p q f))
      ∙ sym (runner-none sets comp q)
  go (Some j) q =
      let r = runs_by sets comp j q in
      let other : j ≡ k → ⊥ = λ z. (
      let same = same_some place (Some r.set) (sym e ∙ ap (slice_get sets) (sym z) ∙ r.at) in
      let both : true ≡ false = sym r.here ∙ ap (λ (p : Option Kept). runs_on (Some comp) (option_map face_of p)) (sym same) ∙ quiet in cc) in
      runner_is (slice_set sets k t) j comp r.set apart (get-set_other sets k j t other ∙ r.at) r.here ∙ sym (runner-some sets comp j r.set q r.at)

-- none runs on the component of a set that stops
pub runner_gone : (sets : List (Option Kept)) (k comp : ℕ) (s t : Kept) → AreApart (faces_of sets) → slice_get sets k ≡ Some (Some s)
    → runs_on (Some comp) (Some (face_of s)) ≡ true → IsQuiet comp (Some t) → runner comp (slice_set sets k (Some t)) ≡ None
runner_gone sets k comp s t apart e here new = none_runs (slice_set sets k (Some t)) comp (put_cases (IsQuiet comp) sets k (Some t) (Some s) e new others) where
  others : (i : ℕ) (p : Option Kept) → (i ≡ k → ⊥) → slice_get sets i ≡ Some p → IsQuiet comp p
  others i None other f = refl
  others i (Some u) other f = elim (cases_Bool (runs_on (Some comp) (Some (face_of u)))) [
    | inl runs ↦ absurd (other (other_runs sets comp i k u s apart f e runs here))
    | inr none ↦ none
  ]

-- ---- units and places

-- a list with one item put is another list that has this item, and has the others where the first one has them
pub put_as : {X : Type 0} (xs ys : List X) (k : ℕ) (x : X) → k < length xs → slice_get ys k ≡ Some x → ((i : ℕ) → (i ≡ k → ⊥) → slice_get xs i ≡ slice_get ys i) → slice_set xs k x ≡ ys
put_as xs ys k x below here others = same_items (slice_set xs k x) ys (λ i. elim (cases_eq i k) [
  | inl same ↦ ap (slice_get (slice_set xs k x)) same ∙ get-set_same xs k x below ∙ sym (ap (slice_get ys) same ∙ here)
  | inr other ↦ get-set_other xs k i x other ∙ others i other
])

-- the unit of a component
get-units_from : (book : Book) (past : List Occ) (sets : List (Option Kept)) (comp : ℕ) (shape : Widths) (c : ℕ) → slice_get (units_from book past sets comp shape) c ≡ option_map (unit_at book past sets (comp + c)) (slice_get shape c)
get-units_from book past sets comp [] c = refl
get-units_from book past sets comp (ws ∷ shape) zero = let e : comp ≡ comp + 0 = omega arith in ap (λ (k : ℕ). Some (unit_at book past sets k ws)) e
get-units_from book past sets comp (ws ∷ shape) (suc c) =
    let e : comp + 1 + c ≡ comp + suc c = omega arith in
    get-units_from book past sets (comp + 1) shape c ∙ ap (λ (k : ℕ). option_map (unit_at book past sets k) (slice_get shape c)) e

pub get-units : (book : Book) (shape : Widths) (past : List Occ) (sets : List (Option Kept)) (c : ℕ) → slice_get (units_of book shape past sets) c ≡ option_map (unit_at book past sets c) (slice_get shape c)
get-units book shape past sets c = let e : 0 + c ≡ c = omega arith in get-units_from book past sets 0 shape c ∙ ap (λ (k : ℕ). option_map (unit_at book past sets k) (slice_get shape c)) e

pub length-units : (book : Book) (past : List Occ) (sets : List (Option Kept)) (comp : ℕ) (shape : Widths) → length (units_from book past sets comp shape) ≡ length shape
length-units book past sets comp [] = refl
length-units book past sets comp (ws ∷ shape) = ap suc (length-units book past sets (comp + 1) shape)

-- a component's unit is the same for two accounts
abbrev pub IsSameUnit : Book → List Occ → List Occ → List (Option Kept) → List (Option Kept) → ℕ → Type 0
IsSameUnit book past more sets ts c = (ws : List ℕ) → unit_at book past sets c ws ≡ unit_at book more ts c ws

same_item : (book : Book) (shape : Widths) (past more : List Occ) (sets ts : List (Option Kept)) (c : ℕ) → IsSameUnit book past more sets ts c → slice_get (units_of book shape past sets) c ≡ slice_get (units_of book shape more ts) c
same_item book shape past more sets ts c same = get-units book shape past sets c ∙ go (slice_get shape c) ∙ sym (get-units book shape more ts c) where
  go : (ws : Option (List ℕ)) → option_map (unit_at book past sets c) ws ≡ option_map (unit_at book more ts c) ws
  go None = refl
  go (Some ws) = ap Some (same ws)

pub units_same : (book : Book) (shape : Widths) (past more : List Occ) (sets ts : List (Option Kept)) → ((c : ℕ) → IsSameUnit book past more sets ts c) → units_of book shape past sets ≡ units_of book shape more ts
units_same book shape past more sets ts same = same_items _ _ (λ c. same_item book shape past more sets ts c (same c))

-- all units are the same but one
pub units_put : (book : Book) (shape : Widths) (past more : List Occ) (sets ts : List (Option Kept)) (comp : ℕ) (ws : List ℕ) → slice_get shape comp ≡ Some ws → ((c : ℕ) → (c ≡ comp → ⊥) → IsSameUnit book past more sets ts c)
    → slice_set (units_of book shape past sets) comp (unit_at book more ts comp ws) ≡ units_of book shape more ts
units_put book shape past more sets ts comp ws at_comp same = put_as (units_of book shape past sets) (units_of book shape more ts) comp (unit_at book more ts comp ws)
    (let below = slice_get_within shape comp ws at_comp in omega (arith, length-units book past sets 0 shape))
    (get-units book shape more ts comp ∙ ap (option_map (unit_at book more ts comp)) at_comp)
    (λ c other. same_item book shape past more sets ts c (same c other))

-- a unit by the set that runs on it
pub unit_by-runner : (book : Book) (past : List Occ) (sets : List (Option Kept)) (comp : ℕ) (ws : List ℕ) (found : Option Kept) → runner comp sets ≡ found → unit_at book past sets comp ws ≡ record { widths = ws; registers = registers_by book ws past found }
unit_by-runner book past sets comp ws found is = ap (λ (x : Option Kept). record { widths = ws; registers = registers_by book ws past x }) is

-- a place put anew leaves the unit of a component on which neither runs
pub unit_stays : (book : Book) (past : List Occ) (sets : List (Option Kept)) (k c : ℕ) (t place : Option Kept) → AreApart (faces_of (slice_set sets k t)) → slice_get sets k ≡ Some place → IsQuiet c place → IsQuiet c t → IsSameUnit book past past sets (slice_set sets k t) c
unit_stays book past sets k c t place apart e quiet new ws = sym (unit_by-runner book past (slice_set sets k t) c ws (runner c sets) (runner_same sets k c t place apart e quiet new))
