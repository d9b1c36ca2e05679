-- The agreement of a set with the book is kept by its changes.
use Rattle.event_sets.proofs.Words.{◌≡◌, ◌≢◌, ◌⊎◌, inl, inr, ℕ, zero, suc, ◌+◌, Bool, true, false, ◌==◌, List, [], ◌∷◌, ◌++◌, length, min, ◌-◌, take}
use Rattle.event_sets.proofs.Words.{drop, remove, refl, sym, ◌∙◌, ap, subst, arith, rules, slice_get, Option, Some, None, ◌<◌, IsSomeAnd, get_or}
use Rattle.event_sets.proofs.Words.{length-append, length-take, length-drop, length-set, All, nat_lt, option_map, option_map_or, list_any}
use Rattle.event_sets.proofs.Words.{position_or_len, All-nil, All-push, slice_get_within, slice_get-get_or, get_or_from_slice_get, nat_tests}
use Rattle.event_sets.proofs.Words.{or_parts, or_right, Native, EventRef, joined_by, same_event, Book, component_of_event, entry, lead, natives_after}
use Rattle.event_sets.proofs.Words.{natives_of, natives_of_event, rule_of_event, DerivedView, IsDerived, has_event, is_other, place_of, is_plain}
use Rattle.event_sets.proofs.Words.{armed_elsewhere, set_natives, shares_native, IsOwned, IsHeld, AddedAgrees, ArmedAgrees, AssignedAgrees}
use Rattle.event_sets.proofs.Words.{EmptiedAgrees, HeldHaveNatives, NativesAreOwned, RemovedAgrees, event_is, event_self, native_self, get_pushed}
use Rattle.papi_base.specs.declared.native.EventRef.TheVariants as event
use Rattle.event_sets.proofs.JoinedNatives.{joined_all}
use Rattle.event_sets.proofs.Removing.{stood, stood_apart, get_removed, get_put}

-- a property of the items, by number
pub by_number : {X : Type 0} (P : X → Type 0) (xs : List X) → ((i : ℕ) (x : X) → slice_get xs i ≡ Some x → P x) → All P xs
by_number P xs h = λ k d below. h k (get_or xs k d) (slice_get-get_or xs k d below)

pub numbered : {X : Type 0} (P : X → Type 0) (xs : List X) → All P xs → (i : ℕ) (x : X) → slice_get xs i ≡ Some x → P x
numbered P xs h i x e = subst P (get_or_from_slice_get xs i x x e) (h i x (slice_get_within xs i x e))

pub emptied_agrees : EmptiedAgrees
emptied_agrees book s = search rules

-- an event that is in the list is found there
pub found : (e : EventRef) (es : List EventRef) (i : ℕ) → slice_get es i ≡ Some e → list_any (same_event e) es ≡ true
found e [] i h = cc
found e (f ∷ es) zero h = let same : f ≡ e = cc in rw (same, event_self e) refl
found e (f ∷ es) (suc i) h = or_right (same_event e f) (list_any (same_event e) es) (found e es i h)

-- an item that is in a list by a test stands at the first place where it is found
pub first_place : {X : Type 0} (p : X → Bool) (x : X) → ((y : X) → p y ≡ true → x ≡ y) → (xs : List X) → list_any p xs ≡ true → slice_get xs (position_or_len p xs) ≡ Some x
first_place p x is [] h = cc
first_place {X} p x is (y ∷ ys) h = grind (arith, nat_tests, first_place p x is ys)

-- a list that is not empty has a first item
first_item : {X : Type 0} (xs : List X) → 0 < length xs → (x : X) × (slice_get xs 0 ≡ Some x)
first_item [] h = absurd (omega (arith, h))
first_item (x ∷ xs) h = (x, refl)

lead_of : (o : Option DerivedView) → IsSomeAnd o IsDerived → (n : Native) × (slice_get (option_map_or (λ d. d.natives) o []) 0 ≡ Some n)
lead_of = grind (arith, nat_tests, first_item)

-- an event that the book holds has a first native
pub held_have_natives : HeldHaveNatives
held_have_natives book (event.Native n) h = (n, refl)
held_have_natives book (event.Preset row) h = lead_of (entry book row) h

one_of : (o : Option DerivedView) → IsSomeAnd o IsDerived → (i : ℕ) (n : Native) → slice_get (option_map_or (λ d. d.natives) o []) i ≡ Some n
    → option_map (λ m. m.comp) (slice_get (option_map_or (λ d. d.natives) o []) 0) ≡ Some n.comp
one_of None h i n e = absurd h
one_of (Some d) h i n e =
    let first = first_item d.natives h.some in
    let same : (k : ℕ) (m : Native) → slice_get d.natives k ≡ Some m → m.comp ≡ h.one_component.0 = numbered (λ m. m.comp ≡ h.one_component.0) d.natives h.one_component.1 in
    ap (option_map (λ m. m.comp)) first.1 ∙ ap Some (same 0 first.0 first.1 ∙ sym (same i n e))

-- the natives of an event that the book holds are of its component
pub event_owned : (book : Book) (e : EventRef) → IsHeld book e → (i : ℕ) (n : Native) → slice_get (natives_of_event book e) i ≡ Some n → component_of_event book e ≡ Some n.comp
event_owned book e h i n at = grind (arith, nat_tests, one_of)

-- no other component is fixed: none is, or this one
pub not_other : (fixed : Option ℕ) (comp : ℕ) → is_other fixed (Some comp) ≡ false → (fixed ≡ None) ⊎ (fixed ≡ Some comp)
not_other = grind (arith, nat_tests)

same_component : (a : Option ℕ) (g c : ℕ) → is_other a (Some g) ≡ false → a ≡ Some c → Some g ≡ Some c
same_component a g c h e = elim (not_other a g h) [ inl none ↦ cc | inr is ↦ cc ]

moved_owner : (book : Book) (old : Option ℕ) (new : ℕ) (es : List EventRef) → is_other old (Some new) ≡ false → All (IsOwned book old) es → All (IsOwned book (Some new)) es
moved_owner book old new es same h = grind (arith, nat_tests, by_number, same_component)

-- an event that the book holds has a component
pub held_component : (book : Book) (e : EventRef) → IsHeld book e → (g : ℕ) × (component_of_event book e ≡ Some g)
held_component book e h = let first = held_have_natives book e h in (first.0.comp, ap (option_map (λ n. n.comp)) first.1)

added_owner : (book : Book) (old : Option ℕ) (e : EventRef) (es : List EventRef) → IsHeld book e → is_other old (component_of_event book e) ≡ false
    → All (IsOwned book old) es → All (IsOwned book (component_of_event book e)) es
added_owner book old e es given same h = grind (arith, nat_tests, held_component, moved_owner)

-- with one more event
pub added_agrees : AddedAgrees
added_agrees book e s given takes h = record {
  held = All-push (IsHeld book) s.events e h.held given;
  owned = All-push (IsOwned book (component_of_event book e)) s.events e
      (added_owner book s.component e s.events given (or_parts (is_other s.component (component_of_event book e)) (has_event e s) takes).0 h.owned)
      (by_number (λ n. component_of_event book e ≡ Some n.comp) (natives_of_event book e) (event_owned book e given));
  one_each = omega (arith, length-append s.thresholds (0 ∷ []), length-append s.events (e ∷ []), h.one_each);
  distinct = λ i j f a b. elim (get_pushed s.events e i f a) [
    | inl a' ↦ elim (get_pushed s.events e j f b) [ inl b' ↦ h.distinct i j f a' b' | inr b' ↦ absurd (fresh i f a' b'.1) ]
    | inr a' ↦ elim (get_pushed s.events e j f b) [ inl b' ↦ absurd (fresh j f b' a'.1) | inr b' ↦ a'.0 ∙ sym b'.0 ]
  ];
  plain = λ i t f a b. h.plain i t f (armed i t a) (event i t f (armed i t a) b);
  apart = λ i j t u f g n a b c d. h.apart i j t u f g n (armed i t a) (armed j u b) (event i t f (armed i t a) c) (event j u g (armed j u b) d);
} where
  new : has_event e s ≡ false
  new = (or_parts (is_other s.component (component_of_event book e)) (has_event e s) takes).1

  fresh : (i : ℕ) (f : EventRef) → slice_get s.events i ≡ Some f → e ≡ f → ⊥
  fresh i f a q = let is : false ≡ true = sym new ∙ found e s.events i (a ∙ ap Some (sym q)) in cc is

  armed : (i t : ℕ) → slice_get (s.thresholds ++ 0 ∷ []) i ≡ Some (suc t) → slice_get s.thresholds i ≡ Some (suc t)
  armed i t a = elim (get_pushed s.thresholds 0 i (suc t) a) [ inl b ↦ b | inr b ↦ absurd (omega (arith, b.1)) ]

  event : (i t : ℕ) (f : EventRef) → slice_get s.thresholds i ≡ Some (suc t) → slice_get (s.events ++ e ∷ []) i ≡ Some f → slice_get s.events i ≡ Some f
  event i t f a b = elim (get_pushed s.events e i f b) [ inl c ↦ c | inr c ↦ absurd (omega (arith, slice_get_within s.thresholds i (suc t) a, h.one_each, c.0)) ]

-- with another component
pub assigned_agrees : AssignedAgrees
assigned_agrees book comp s same h = let owned = moved_owner book s.component comp s.events same h.owned in assumption

pub length-remove : {X : Type 0} (xs : List X) (p : ℕ) → length (remove xs p) ≡ min p (length xs) + (length xs - suc p)
length-remove xs p = omega (arith, length-append (take p xs) (drop (suc p) xs), length-take p xs, length-drop (suc p) xs)

-- with an event gone
pub removed_agrees : RemovedAgrees
removed_agrees book e s h =
    let p = place_of e s in
    let es : (i : ℕ) (f : EventRef) → slice_get (remove s.events p) i ≡ Some f → slice_get s.events (stood p i) ≡ Some f = λ i f a. sym (get_removed s.events p i) ∙ a in
    let ts : (i t : ℕ) → slice_get (remove s.thresholds p) i ≡ Some t → slice_get s.thresholds (stood p i) ≡ Some t = λ i t a. sym (get_removed s.thresholds p i) ∙ a in
    record {
      held = by_number (IsHeld book) (remove s.events p) (λ i f a. numbered (IsHeld book) s.events h.held (stood p i) f (es i f a));
      owned = by_number (IsOwned book s.component) (remove s.events p) (λ i f a. numbered (IsOwned book s.component) s.events h.owned (stood p i) f (es i f a));
      one_each = omega (arith, length-remove s.thresholds p, length-remove s.events p, h.one_each);
      distinct = λ i j f a b. stood_apart p i j (h.distinct (stood p i) (stood p j) f (es i f a) (es j f b));
      plain = λ i t f a b. h.plain (stood p i) t f (ts i (suc t) a) (es i f b);
      apart = λ i j t u f g n a b c d k l. stood_apart p i j (h.apart (stood p i) (stood p j) t u f g n (ts i (suc t) a) (ts j (suc u) b) (es i f c) (es j g d) k l);
    }

positive : (u : ℕ) → nat_lt 0 (suc u) ≡ true
positive u = grind (arith, nat_tests)

-- another event that has a threshold on the native is found
elsewhere : (book : Book) (e : EventRef) (n : Native) (es : List EventRef) (ts : List ℕ) (j u : ℕ) (g : EventRef) → slice_get es j ≡ Some g → slice_get ts j ≡ Some (suc u)
    → same_event e g ≡ false → lead book g ≡ Some n → armed_elsewhere book e n es ts ≡ true
elsewhere book e n [] ts j u g a b c d = cc
elsewhere book e n (x ∷ es) [] j u g a b c d = cc
elsewhere book e n (x ∷ es) (t ∷ ts) zero u g a b c d = grind (arith, nat_tests, native_self, positive)
elsewhere book e n (x ∷ es) (t ∷ ts) (suc j) u g a b c d = or_right _ (armed_elsewhere book e n es ts) (elsewhere book e n es ts j u g a b c d)

other_event : (e g : EventRef) → (e ≡ g → ⊥) → same_event e g ≡ false
other_event e g apart = grind (arith, nat_tests, event_is)

not_zero : (t u : ℕ) → t ≡ suc u → (t == 0) ≡ false
not_zero t u q = grind (arith, nat_tests, q)

-- with a threshold on an event of the set
pub armed_agrees : ArmedAgrees
armed_agrees book e t s has plain alone h = record {
  held = h.held;
  owned = h.owned;
  distinct = h.distinct;
  one_each = length-set s.thresholds p t ∙ h.one_each;
  plain = λ i u f a b. elim (get_put s.thresholds p t i (suc u) a) [
    | inl c ↦ subst (λ x. is_plain (rule_of_event book x) ≡ true) (is i f c.0 b) plain
    | inr c ↦ h.plain i u f c.1 b
  ];
  apart = λ i j a b f g n k l u v x y. elim (get_put s.thresholds p t i (suc a) k) [
    | inl c ↦ elim (get_put s.thresholds p t j (suc b) l) [ inl d ↦ c.0 ∙ sym d.0 | inr d ↦ absurd (clash i j a b f g n c.0 c.1 d.0 d.1 u v x y) ]
    | inr c ↦ elim (get_put s.thresholds p t j (suc b) l) [ inl d ↦ absurd (clash j i b a g f n d.0 d.1 c.0 c.1 v u y x) | inr d ↦ h.apart i j a b f g n c.1 d.1 u v x y ]
  ];
} where
  p : ℕ
  p = place_of e s

  stands : slice_get s.events p ≡ Some e
  stands = first_place (same_event e) e (event_is e) s.events has

  is : (i : ℕ) (f : EventRef) → i ≡ p → slice_get s.events i ≡ Some f → e ≡ f
  is i f q b = let both : Some e ≡ Some f = sym stands ∙ (ap (slice_get s.events) (sym q) ∙ b) in cc

  clash : (i j a b : ℕ) (f g : EventRef) (n : Native) → i ≡ p → t ≡ suc a → j ≢ p → slice_get s.thresholds j ≡ Some (suc b) → slice_get s.events i ≡ Some f → slice_get s.events j ≡ Some g
      → lead book f ≡ Some n → lead book g ≡ Some n → ⊥
  clash i j a b f g n q big apart l u v x y =
      let same : e ≡ f = is i f q u in
      let other : same_event e g ≡ false = other_event e g (λ r. apart (h.distinct j p g v (stands ∙ ap Some r))) in
      let there : armed_elsewhere book e n s.events s.thresholds ≡ true = elsewhere book e n s.events s.thresholds j b g v l other y in
      let led : lead book e ≡ Some n = ap (lead book) same ∙ x in
      let shares : shares_native book e t s ≡ true = rw (not_zero t a big, led, there) refl in
      cc

-- ---- the natives of a set

after_all : (P : Native → Type 0) (book : Book) (seen : List Native) (es : List EventRef) → All P seen
    → ((i : ℕ) (e : EventRef) → slice_get es i ≡ Some e → All P (natives_of_event book e)) → All P (natives_after book seen es)
after_all P book seen [] h k = h
after_all P book seen (e ∷ es) h k = after_all P book (joined_by seen (natives_of_event book e)) es (joined_all P seen (natives_of_event book e) h (k 0 e refl)) (λ i f q. k (suc i) f q)

-- what holds of the natives of each event holds of the natives of the events
pub natives_all : (P : Native → Type 0) (book : Book) (es : List EventRef)
    → ((i : ℕ) (e : EventRef) → slice_get es i ≡ Some e → All P (natives_of_event book e)) → All P (natives_of book es)
natives_all P book es h = after_all P book [] es (All-nil P) h

pub natives_are_owned : NativesAreOwned
natives_are_owned book s i n h e = numbered (λ m. s.component ≡ Some m.comp) (set_natives book s)
    (natives_all (λ m. s.component ≡ Some m.comp) book s.events (λ j f q. numbered (IsOwned book s.component) s.events h.owned j f q)) i n e
