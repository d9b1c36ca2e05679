-- Of each component at most one set runs.
use Rattle.session_model.proofs.Words.{nat_tests, ◌≡◌, ℕ, zero, suc, ◌+◌, ◌≤◌, Bool, true, false, List, [], ◌∷◌, refl, ap, sym, subst, ◌∙◌, arith}
use Rattle.session_model.proofs.Words.{slice_set, Option, Some, None, Ok, option_map, option_map_or, list_any, eqb-true, or_parts, sum_by-cons, Book}
use Rattle.session_model.proofs.Words.{component_of_event, Widths, Call, Account, Kept, AreApart, Face, at, change, component_runs, face_of, faces_of}
use Rattle.session_model.proofs.Words.{free, runs_on, changed_at, changed_by, kept_after, new_kept, sets_after, rows, account_refusal, ApartStays}
use Rattle.session_model.proofs.Words.{OpeningApart}
use Rattle.std.specs.Prelude.{count_by, if◌then◌else◌, ◌==◌, ◌&&◌}
use Rattle.call_type.specs.declared.call.Call.TheVariants as call
use Rattle.session_model.proofs.Sets.{at_map, is_stopped, map_put, performed_sets, row_fails, step_has}

bit_le : (b : Bool) → (if b then 1 else 0) ≤ 1
bit_le b = grind (arith, nat_tests)

bit_mono : (b c : Bool) → (b ≡ true → c ≡ true) → (if b then 1 else 0) ≤ (if c then 1 else 0)
bit_mono b c h = grind (arith, nat_tests)

count_cons : {X : Type 0} (p : X → Bool) (x : X) (xs : List X) → count_by p (x ∷ xs) ≡ (if p x then 1 else 0) + count_by p xs
count_cons p x xs = sum_by-cons (λ y. if p y then 1 else 0) x xs

-- one item is replaced: at most one more passes the test
count_set : {X : Type 0} (p : X → Bool) (xs : List X) (k : ℕ) (y : X) → count_by p (slice_set xs k y) ≤ count_by p xs + 1
count_set p [] k y = omega arith
count_set p (x ∷ xs) zero y = omega (arith, count_cons p y xs, count_cons p x xs, bit_le (p y), bit_le (p x))
count_set p (x ∷ xs) (suc k) y = omega (arith, count_cons p x (slice_set xs k y), count_cons p x xs, count_set p xs k y)

-- one item is replaced by one that passes only if the old one did
count_set-le : {X : Type 0} (p : Option X → Bool) (xs : List (Option X)) (k : ℕ) (y : Option X) → (p y ≡ true → p (at xs k) ≡ true) → count_by p (slice_set xs k y) ≤ count_by p xs
count_set-le p [] k y h = omega arith
count_set-le p (x ∷ xs) zero y h = omega (arith, count_cons p y xs, count_cons p x xs, bit_mono (p y) (p x) h)
count_set-le p (x ∷ xs) (suc k) y h = omega (arith, count_cons p x (slice_set xs k y), count_cons p x xs, count_set-le p xs k y h)

-- none passes
count_none : {X : Type 0} (p : X → Bool) (xs : List X) → list_any p xs ≡ false → count_by p xs ≡ 0
count_none p [] h = refl
count_none p (x ∷ xs) h =
    let parts = or_parts (p x) (list_any p xs) h in
    let B : Bool → Type 0 = λ b. (if b then 1 else 0) + count_by p xs ≡ 0 in
    let there : count_by p xs ≡ 0 = count_none p xs parts.1 in
    count_cons p x xs ∙ subst B (sym parts.0) (omega (arith, there))

-- a changed place runs on a component only if it did before: then the sets stay apart
change_apart : (f : Kept → Kept) (sets : List (Option Kept)) (k : ℕ)
    → ((s : Kept) → at sets k ≡ Some s → (component : ℕ) → runs_on (Some component) (Some (face_of (f s))) ≡ true → runs_on (Some component) (Some (face_of s)) ≡ true)
    → AreApart (faces_of sets) → AreApart (faces_of (change f sets k))
change_apart f sets k given apart = record { each = each } where
  y : Option Face
  y = option_map face_of (option_map f (at sets k))

  go : (component : ℕ) (o : Option Kept) → at sets k ≡ o → runs_on (Some component) (option_map face_of (option_map f o)) ≡ true → runs_on (Some component) (option_map face_of o) ≡ true
  go component None there e = e
  go component (Some s) there e = given s there component e

  each : (component : ℕ) → count_by (runs_on (Some component)) (faces_of (change f sets k)) ≤ 1
  each component =
      let old : runs_on (Some component) y ≡ true → runs_on (Some component) (at (faces_of sets) k) ≡ true = λ e. ap (runs_on (Some component)) (at_map face_of sets k) ∙ go component (at sets k) refl e in
      let less : count_by (runs_on (Some component)) (slice_set (faces_of sets) k y) ≤ count_by (runs_on (Some component)) (faces_of sets) = count_set-le (runs_on (Some component)) (faces_of sets) k y old in
      let still = apart.each component in
      subst (λ xs. count_by (runs_on (Some component)) xs ≤ 1) (map_put (option_map face_of) sets k (option_map f (at sets k))) (omega (arith, less, still))

-- a place is put that does not run
put_apart : (sets : List (Option Kept)) (k : ℕ) (place : Option Kept) → ((component : ℕ) → runs_on (Some component) (option_map face_of place) ≡ false) → AreApart (faces_of sets) → AreApart (faces_of (slice_set sets k place))
put_apart sets k place stopped apart = record { each = each } where
  each : (component : ℕ) → count_by (runs_on (Some component)) (faces_of (slice_set sets k place)) ≤ 1
  each component =
      let none : runs_on (Some component) (option_map face_of place) ≡ true → runs_on (Some component) (at (faces_of sets) k) ≡ true = λ e. let bad : true ≡ false = sym e ∙ stopped component in cc bad in
      let less : count_by (runs_on (Some component)) (slice_set (faces_of sets) k (option_map face_of place)) ≤ count_by (runs_on (Some component)) (faces_of sets) = count_set-le (runs_on (Some component)) (faces_of sets) k (option_map face_of place) none in
      let still = apart.each component in
      subst (λ xs. count_by (runs_on (Some component)) xs ≤ 1) (map_put (option_map face_of) sets k place) (omega (arith, less, still))

-- a stopped set runs on no component, whatever its component becomes
stopped_runs : (b d : Bool) → b ≡ false → (b && d) ≡ true → ⊥
stopped_runs b d e h = grind (arith, nat_tests)

-- a set that starts is the only one of its component
started_apart : (f : Kept → Kept) (sets : List (Option Kept)) (k : ℕ) → ((s : Kept) → (f s).set.component ≡ s.set.component) → component_runs (faces_of sets) k ≡ false → AreApart (faces_of sets) → AreApart (faces_of (change f sets k))
started_apart f sets k same alone apart = record { each = each } where
  go : (component : ℕ) (o : Option Kept) → at sets k ≡ o → count_by (runs_on (Some component)) (slice_set (faces_of sets) k (option_map face_of (option_map f o))) ≤ 1
  go component None there = let still = apart.each component in omega (arith, still, count_set-le (runs_on (Some component)) (faces_of sets) k None (λ e. cc))
  go component (Some s) there = on s.set.component refl where
    none : list_any (runs_on s.set.component) (faces_of sets) ≡ false
    none = sym (ap (λ o. option_map_or (λ g. list_any (runs_on g.set.component) (faces_of sets)) o false) (at_map face_of sets k ∙ ap (option_map face_of) there)) ∙ alone

    y : Option Face
    y = Some (face_of (f s))

    other : (runs_on (Some component) y ≡ true → ⊥) → count_by (runs_on (Some component)) (slice_set (faces_of sets) k y) ≤ 1
    other not = let still = apart.each component in omega (arith, still, count_set-le (runs_on (Some component)) (faces_of sets) k y (λ e. absurd (not e)))

    -- what it runs on, if its component is this
    runs_by : (c : Option ℕ) → s.set.component ≡ c → runs_on (Some component) y ≡ ((f s).running && option_map_or (λ z. z == component) c false)
    runs_by c is = ap (λ o. (f s).running && option_map_or (λ z. z == component) o false) (same s ∙ is)

    no_run : (b : Bool) → (b && false) ≡ true → ⊥
    no_run true e = cc e
    no_run false e = cc e

    at_component : (x : ℕ) → s.set.component ≡ Some x → (b : Bool) → (x == component) ≡ b → count_by (runs_on (Some component)) (slice_set (faces_of sets) k y) ≤ 1
    at_component x is true equal =
        let no_other : list_any (runs_on (Some component)) (faces_of sets) ≡ false = ap (λ c. list_any (runs_on (Some c)) (faces_of sets)) (sym (eqb-true x component equal)) ∙ ap (λ c. list_any (runs_on c) (faces_of sets)) (sym is) ∙ none in
        omega (arith, count_none (runs_on (Some component)) (faces_of sets) no_other, count_set (runs_on (Some component)) (faces_of sets) k y)
    at_component x is false differs = other (λ e. no_run (f s).running (ap (λ b. (f s).running && b) (sym differs) ∙ (sym (runs_by (Some x) is) ∙ e)))

    on : (c : Option ℕ) → s.set.component ≡ c → count_by (runs_on (Some component)) (slice_set (faces_of sets) k y) ≤ 1
    on None is = other (λ e. no_run (f s).running (sym (runs_by None is) ∙ e))
    on (Some x) is = at_component x is (x == component) refl

  each : (component : ℕ) → count_by (runs_on (Some component)) (faces_of (change f sets k)) ≤ 1
  each component = subst (λ xs. count_by (runs_on (Some component)) xs ≤ 1) (map_put (option_map face_of) sets k (option_map f (at sets k))) (go component (at sets k) refl)

changed_apart : (f : Kept → Kept) (sets : List (Option Kept)) (o : Option ℕ)
    → ((s : Kept) (component : ℕ) → runs_on (Some component) (Some (face_of (f s))) ≡ true → runs_on (Some component) (Some (face_of s)) ≡ true)
    → AreApart (faces_of sets) → AreApart (faces_of (changed_at f o sets))
changed_apart f sets = grind (arith, nat_tests, change_apart)

sets_apart : (book : Book) (shape : Widths) (a : Account) (c : Call) → account_refusal book shape a c ≡ None → AreApart (faces_of a.sets) → AreApart (faces_of (sets_after new_kept (kept_after book a.past) c a.sets))
sets_apart book shape a call.Create q h = put_apart a.sets (free a.sets) (Some new_kept) (λ component. refl) h
sets_apart book shape a (call.Destroy k) q h = put_apart a.sets k None (λ component. refl) h
sets_apart book shape a (call.Cleanup k) q h = change_apart (kept_after book a.past (call.Cleanup k)) a.sets k (λ s there component e. absurd (stopped_runs s.running false (is_stopped book shape a (call.Cleanup k) 1 k s q there refl) e)) h
sets_apart book shape a (call.Add k (Ok x)) q h = change_apart (kept_after book a.past (call.Add k (Ok x))) a.sets k (λ s there component e. absurd (stopped_runs s.running (option_map_or (λ z. z == component) (component_of_event book x) false) (is_stopped book shape a (call.Add k (Ok x)) 1 k s q there refl) e)) h
sets_apart book shape a (call.AssignComponent k comp) q h = change_apart (kept_after book a.past (call.AssignComponent k comp)) a.sets k (λ s there component e. absurd (stopped_runs s.running (comp == component) (is_stopped book shape a (call.AssignComponent k comp) 2 k s q there refl) e)) h
sets_apart book shape a (call.Start k) q h = started_apart (kept_after book a.past (call.Start k)) a.sets k (λ s. refl) (row_fails (rows book shape a.registered (faces_of a.sets) (call.Start k)) 2 q) h
sets_apart book shape a (call.Stop k) q h = change_apart (kept_after book a.past (call.Stop k)) a.sets k (λ s there component e. cc) h
sets_apart book shape a (call.Remove k (Ok x)) q h = changed_apart (kept_after book a.past (call.Remove k (Ok x))) a.sets (Some k) (λ s component e. e) h
sets_apart book shape a (call.Overflow k (Ok x) t) q h = changed_apart (kept_after book a.past (call.Overflow k (Ok x) t)) a.sets (Some k) (λ s component e. e) h
sets_apart book shape a c q h = changed_apart (kept_after book a.past c) a.sets (changed_by c) (λ s component e. e) h

pub apart_stays : ApartStays
apart_stays book shape a c h = grind (arith, nat_tests, step_has, performed_sets, sets_apart)

pub opening_apart : OpeningApart
opening_apart thread rest mark = record { each = λ c. omega arith }
