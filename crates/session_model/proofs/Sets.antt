-- The places of sets, and what holds of each set after a call.
use Rattle.session_model.proofs.Words.{arith, nat_tests, ◌≡◌, ℕ, zero, suc, ◌+◌, Bool, false, List, [], ◌∷◌, map, refl, sym, ◌∙◌, ap, subst}
use Rattle.session_model.proofs.Words.{slice_get, slice_set, Option, Some, None, All, option_map, option_map_or, ForSome, All-set, Book, Refusal}
use Rattle.session_model.proofs.Words.{AtRest, Widths, by_number, numbered, Occ, passed_over, Call, Account, Kept, Face, at, change, face_of}
use Rattle.session_model.proofs.Words.{faces_of, free, has, runs, first_of, rows, changed_at, changed_by, kept_after, new_kept, sets_after}
use Rattle.session_model.proofs.Words.{account_refusal, performed, step, unless}
use Rattle.session_model.proofs.Fits.{get_some}
use Rattle.call_type.specs.declared.call.Call.TheVariants as call

-- if a call is not refused, no row of its table comes
pub row_fails : (rs : List (Bool × Refusal)) (i : ℕ) → first_of rs ≡ None → option_map_or (λ r. r.0) (slice_get rs i) false ≡ false
row_fails [] i e = refl
row_fails (r ∷ rs) zero e = (passed_over r.0 r.1 (first_of rs) e).0
row_fails (r ∷ rs) (suc i) e = row_fails rs i (passed_over r.0 r.1 (first_of rs) e).1

-- the places of a list whose items are changed
pub at_map : {X Y : Type 0} (f : X → Y) (places : List (Option X)) (k : ℕ) → at (map (option_map f) places) k ≡ option_map f (at places k)
at_map f [] k = refl
at_map f (x ∷ places) zero = refl
at_map f (x ∷ places) (suc k) = at_map f places k

pub free_map : {X Y : Type 0} (f : X → Y) (places : List (Option X)) → free (map (option_map f) places) ≡ free places
free_map f [] = refl
free_map f (None ∷ places) = refl
free_map f (Some x ∷ places) = ap (λ k. 1 + k) (free_map f places)

pub map_put : {X Y : Type 0} (f : X → Y) (xs : List X) (k : ℕ) (x : X) → slice_set (map f xs) k (f x) ≡ map f (slice_set xs k x)
map_put f [] k x = refl
map_put f (y ∷ xs) zero x = refl
map_put f (y ∷ xs) (suc k) x = ap (λ ys. f y ∷ ys) (map_put f xs k x)

-- what a test says of the set under a number, and whether it runs
pub has_at : (test : AtRest → Bool) (sets : List (Option Kept)) (k : ℕ) (s : Kept) → at sets k ≡ Some s → has test (faces_of sets) k ≡ test s.set
has_at test sets k s e = ap (λ o. option_map_or (λ f. test f.set) o false) (at_map face_of sets k ∙ ap (option_map face_of) e)

pub runs_at : (sets : List (Option Kept)) (k : ℕ) (s : Kept) → at sets k ≡ Some s → runs (faces_of sets) k ≡ s.running
runs_at sets k s e = ap (λ o. option_map_or (λ f. f.running) o false) (at_map face_of sets k ∙ ap (option_map face_of) e)

pub of_one : {X : Type 0} (P : X → Type 0) (y : X) → P y → ForSome (Some y) P
of_one P y p = λ x e. subst P (let same : y ≡ x = cc in same) p

-- ---- what holds of each set

abbrev pub Each : (Kept → Type 0) → List (Option Kept) → Type 0
Each P sets = All (λ place. ForSome place P) sets

pub each_at : (P : Kept → Type 0) (sets : List (Option Kept)) (k : ℕ) (s : Kept) → Each P sets → at sets k ≡ Some s → P s
each_at P sets k s h e = numbered (λ place. ForSome place P) sets h k (Some s) (get_some (slice_get sets k) s e) s refl

pub change_each : (P : Kept → Type 0) (f : Kept → Kept) (sets : List (Option Kept)) (k : ℕ) → Each P sets → ((s : Kept) → at sets k ≡ Some s → P s → P (f s)) → Each P (change f sets k)
change_each P f sets k h given = All-set (λ place. ForSome place P) sets k (option_map f (at sets k)) (one (at sets k) refl) h where
  one : (o : Option Kept) → at sets k ≡ o → ForSome (option_map f o) P
  one None q = λ x e. cc
  one (Some s) q = of_one P (f s) (given s q (each_at P sets k s h q))

-- what a call leaves of the set that it changes has the property if the set had it
abbrev pub Keeps : (Kept → Type 0) → Book → List Occ → Call → List (Option Kept) → Type 0
Keeps P book past call sets = (k : ℕ) (s : Kept) → changed_by call ≡ Some k → at sets k ≡ Some s → P s → P (kept_after book past call s)

changed : (P : Kept → Type 0) (book : Book) (past : List Occ) (c : Call) (o : Option ℕ) (sets : List (Option Kept)) → changed_by c ≡ o → Keeps P book past c sets → Each P sets → Each P (changed_at (kept_after book past c) o sets)
changed P book past c None sets q given h = h
changed P book past c (Some k) sets q given h = change_each P (kept_after book past c) sets k h (λ s e p. given k s q e p)

pub sets_each : (P : Kept → Type 0) (book : Book) (past : List Occ) (c : Call) (sets : List (Option Kept)) → P new_kept → Keeps P book past c sets → Each P sets → Each P (sets_after new_kept (kept_after book past) c sets)
sets_each P book past call.Create sets fresh given h = All-set (λ place. ForSome place P) sets (free sets) (Some new_kept) (of_one P new_kept fresh) h
sets_each P book past (call.Destroy k) sets fresh given h = All-set (λ place. ForSome place P) sets k None (λ x e. cc) h
sets_each P book past c sets fresh given h = changed P book past c (changed_by c) sets refl given h

-- ---- steps

-- the sets after a call that is not refused
pub performed_sets : (book : Book) (shape : Widths) (a : Account) (c : Call) → (performed book shape a c).account.sets ≡ sets_after new_kept (kept_after book a.past) c a.sets
performed_sets book shape a c = grind (arith, nat_tests)

-- what holds of a refused call's account, and of that of each call that is not refused
pub step_has : (P : Account → Type 0) (book : Book) (shape : Widths) (a : Account) (c : Call) → P a → (account_refusal book shape a c ≡ None → P (performed book shape a c).account) → P (step book shape a c).account
step_has P book shape a c old new = go (account_refusal book shape a c) refl where
  go : (o : Option Refusal) → account_refusal book shape a c ≡ o → P (unless o a (performed book shape a c)).account
  go (Some r) q = old
  go None q = new q

pub step_each : (P : Kept → Type 0) (book : Book) (shape : Widths) (a : Account) (c : Call) → P new_kept → (account_refusal book shape a c ≡ None → Keeps P book a.past c a.sets) → Each P a.sets → Each P (step book shape a c).account.sets
step_each P book shape a c fresh given h =
    step_has (λ b. Each P b.sets) book shape a c h (λ q. subst (Each P) (sym (performed_sets book shape a c)) (sets_each P book a.past c a.sets fresh (given q) h))

-- a test that a row makes of the set under a number fails
pub test_fails : (book : Book) (shape : Widths) (a : Account) (c : Call) (i k : ℕ) (test : AtRest → Bool) (s : Kept) → account_refusal book shape a c ≡ None → at a.sets k ≡ Some s
    → option_map_or (λ r. r.0) (slice_get (rows book shape a.registered (faces_of a.sets) c) i) false ≡ has test (faces_of a.sets) k → test s.set ≡ false
test_fails book shape a c i k test s q there same = sym (same ∙ has_at test a.sets k s there) ∙ row_fails (rows book shape a.registered (faces_of a.sets) c) i q

-- a row that comes if the set runs
pub is_stopped : (book : Book) (shape : Widths) (a : Account) (c : Call) (i k : ℕ) (s : Kept) → account_refusal book shape a c ≡ None → at a.sets k ≡ Some s
    → option_map_or (λ r. r.0) (slice_get (rows book shape a.registered (faces_of a.sets) c) i) false ≡ runs (faces_of a.sets) k → s.running ≡ false
is_stopped book shape a c i k s q there same = sym (same ∙ runs_at a.sets k s there) ∙ row_fails (rows book shape a.registered (faces_of a.sets) c) i q

-- the set under the number that a call changes
pub here : (sets : List (Option Kept)) (j k : ℕ) (s : Kept) → Some j ≡ Some k → at sets k ≡ Some s → at sets j ≡ Some s
here sets j k s q e = let same : j ≡ k = cc in ap (at sets) same ∙ e

-- ---- sets and their faces

get_face : (sets : List (Option Kept)) (i : ℕ) (place : Option Kept) → slice_get sets i ≡ Some place → slice_get (faces_of sets) i ≡ Some (option_map face_of place)
get_face [] i place e = cc
get_face (x ∷ sets) zero place e = let same : x ≡ place = cc in ap (λ p. Some (option_map face_of p)) same
get_face (x ∷ sets) (suc i) place e = get_face sets i place e

get_kept : (sets : List (Option Kept)) (i : ℕ) (face : Option Face) → slice_get (faces_of sets) i ≡ Some face → (place : Option Kept) × (slice_get sets i ≡ Some place) × (option_map face_of place ≡ face)
get_kept [] i face e = cc
get_kept (x ∷ sets) zero face e = (x, refl, (let same : option_map face_of x ≡ face = cc in same))
get_kept (x ∷ sets) (suc i) face e = get_kept sets i face e

pub of_faces : (P : Face → Type 0) (sets : List (Option Kept)) → All (λ place. ForSome place P) (faces_of sets) → Each (λ s. P (face_of s)) sets
of_faces P sets h = by_number (λ place. ForSome place (λ s. P (face_of s))) sets
    (λ i place e s there. numbered (λ p. ForSome p P) (faces_of sets) h i (option_map face_of place) (get_face sets i place e) (face_of s) (ap (option_map face_of) there))

pub to_faces : (P : Face → Type 0) (sets : List (Option Kept)) → Each (λ s. P (face_of s)) sets → All (λ place. ForSome place P) (faces_of sets)
to_faces P sets h = by_number (λ place. ForSome place P) (faces_of sets) (λ i face e.
    let k = get_kept sets i face e in
    subst (λ p. ForSome p P) k.2 (go k.0 (numbered (λ p. ForSome p (λ s. P (face_of s))) sets h i k.0 k.1))) where
      go : (o : Option Kept) → ForSome o (λ s. P (face_of s)) → ForSome (option_map face_of o) P
      go None g = λ x e. cc
      go (Some s) g = of_one P (face_of s) (g s refl)
