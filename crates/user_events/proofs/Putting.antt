-- The entry of a name is put at its place.
use Rattle.user_events.proofs.Words.{◌≡◌, ◌∙◌, ◌+◌, ◌<◌, ◌≤◌, ◌∷◌, ◌++◌, ℕ, zero, suc, Bool, true, false, cond, List, [], Option, Some, None, map}
use Rattle.user_events.proofs.Words.{set, length, get_or, refl, sym, ap, arith, position_or_len, bytes_eq, cond_both, ltb-false, or_parts, or_right}
use Rattle.user_events.proofs.Words.{length-map, map-append, position-Some, Text, Entry, EventView, event_view, names_of, among, put_event, UserEvent}
use Rattle.std.specs.Prelude.{not, nat_lt, position}
use Rattle.preset_csv.specs.declared.entry.Entry.TheVariants as entry

abbrev pub is_named : Text → EventView → Bool
is_named name x = bytes_eq name x.name

abbrev nothing : EventView
nothing = record { name = []; entry = entry.Missing }

put-at : (events : List UserEvent) (name : Text) (e : Entry) (p : ℕ) (x : UserEvent) → p < length events → x ≡ get_or events p x → is_named name (get_or (map event_view events) p nothing) ≡ true
    → ((k : ℕ) → k < p → is_named name (get_or (map event_view events) k nothing) ≡ false)
    → map event_view (set events p (record { name = x.name; entry = e })) ≡ put_event (map event_view events) name e
put-at [] name e p x lt is here first = absurd (omega arith)
put-at (y ∷ events) name e zero x lt is here first = rw here (ap (λ (u : UserEvent). event_view (record { name = u.name; entry = e }) ∷ map event_view events) is)
put-at (y ∷ events) name e (suc p) x lt is here first =
    rw (first 0 (omega arith)) (ap (λ (xs : List EventView). event_view y ∷ xs) (put-at events name e p x (omega arith) is here (λ k h. first (suc k) (omega arith))))

pub put-found : (events : List UserEvent) (name : Text) (e : Entry) (p : ℕ) (x : UserEvent) → position (is_named name) (map event_view events) ≡ Some p → x ≡ get_or events p x
    → map event_view (set events p (record { name = x.name; entry = e })) ≡ put_event (map event_view events) name e
put-found events name e p x found is =
    let f = position-Some (is_named name) (map event_view events) p nothing found in
    put-at events name e p x (omega (arith, f.0, length-map events event_view)) is f.1 f.2

none-named : (xs : List EventView) (name : Text) → length xs ≤ position_or_len (is_named name) xs → among name (names_of xs) ≡ false
none-named [] name le = refl
none-named (x ∷ xs) name le = go (bytes_eq name x.name) refl (none-named xs name) le
  where
    go : (b : Bool) → bytes_eq name x.name ≡ b → (length xs ≤ position_or_len (is_named name) xs → among name (names_of xs) ≡ false)
        → length (x ∷ xs) ≤ cond (not b) (1 + position_or_len (is_named name) xs) 0 → among name (names_of (x ∷ xs)) ≡ false
    go true e more h = absurd (omega arith)
    go false e more h = rw e (more (omega arith))

pub not-among : (xs : List EventView) (name : Text) → position (is_named name) xs ≡ None → among name (names_of xs) ≡ false
not-among xs name e =
    cond_both (nat_lt (position_or_len (is_named name) xs) (length xs)) (Some (position_or_len (is_named name) xs)) None (λ (o : Option ℕ). o ≡ None → among name (names_of xs) ≡ false)
    (λ p q. cc q) (λ p q. none-named xs name (ltb-false _ _ p)) e

pub is-among : (xs : List EventView) (name : Text) (p : ℕ) → position (is_named name) xs ≡ Some p → among name (names_of xs) ≡ true
is-among xs name p e = let f = position-Some (is_named name) xs p nothing e in found xs p f.0 f.1
  where
    found : (ys : List EventView) (k : ℕ) → k < length ys → is_named name (get_or ys k nothing) ≡ true → among name (names_of ys) ≡ true
    found [] k lt h = absurd (omega arith)
    found (y ∷ ys) zero lt h = rw h refl
    found (y ∷ ys) (suc k) lt h = or_right (bytes_eq name y.name) (among name (names_of ys)) (found ys k (omega arith) h)

pub put-last : (xs : List EventView) (name : Text) (e : Entry) → among name (names_of xs) ≡ false → put_event xs name e ≡ xs ++ record { name = name; entry = e } ∷ []
put-last [] name e h = refl
put-last (x ∷ xs) name e h =
    let o = or_parts (bytes_eq name x.name) (among name (names_of xs)) h in
    rw o.0 (ap (λ (ys : List EventView). x ∷ ys) (put-last xs name e o.1))

pub put-new : (events : List UserEvent) (name : Text) (e : Entry) (u : UserEvent) → position (is_named name) (map event_view events) ≡ None → event_view u ≡ record { name = name; entry = e }
    → map event_view (events ++ u ∷ []) ≡ put_event (map event_view events) name e
put-new events name e u none is =
    map-append event_view events (u ∷ []) ∙ ap (λ (x : EventView). map event_view events ++ x ∷ []) is ∙ sym (put-last (map event_view events) name e (not-among (map event_view events) name none))

pub position-map : {X Y : Type 0} (f : X → Y) (p : Y → Bool) (xs : List X) → position (λ x. p (f x)) xs ≡ position p (map f xs)
position-map {X = X} f p xs = rw (length-map xs f, places xs) refl
  where
    places : (ys : List X) → position_or_len p (map f ys) ≡ position_or_len (λ y. p (f y)) ys
    places [] = refl
    places (y ∷ ys) = ap (λ (k : ℕ). cond (not (p (f y))) (1 + k) 0) (places ys)
