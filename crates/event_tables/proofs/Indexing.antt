-- The index of a component's events, with one event more and with one umask more.
use Rattle.event_tables.proofs.Words.{◌≡◌, ◌∙◌, ◌+◌, ◌∷◌, ◌++◌, ℕ, List, [], Option, Some, None, Bool, true, false, length, refl, sym, ap, subst}
use Rattle.event_tables.proofs.Words.{arith, bytes_eq-Decides, ◌||◌, is_some, if◌then◌else◌, list_any, position_from, update, bytes_eq}
use Rattle.event_tables.proofs.Words.{str_to_ascii_lowercase, or_parts, Text, with_mask, EventText, MaskText, row_of_lower, same_name, on_last}

-- some item is found if there is one
pub any-found : {X : Type 0} (p : X → Bool) (i : ℕ) (xs : List X) → is_some (position_from p i xs) ≡ list_any p xs
any-found p i [] = refl
any-found p i (x ∷ xs) = go (p x) (any-found p (i + 1) xs)
  where
    go : (b : Bool) → is_some (position_from p (i + 1) xs) ≡ list_any p xs → is_some (if b then Some i else position_from p (i + 1) xs) ≡ (b || list_any p xs)
    go true h = refl
    go false h = h

-- an item at the end that is the first to pass
last-found : {X : Type 0} (p : X → Bool) (i n : ℕ) (xs : List X) (x : X) → n ≡ i + length xs → list_any p xs ≡ false → p x ≡ true → position_from p i (xs ++ x ∷ []) ≡ Some n
last-found p i n [] x e h t = let same : i ≡ n = omega (arith, e) in rw t (ap Some same)
last-found p i n (y ∷ xs) x e h t =
    let none = or_parts (p y) (list_any p xs) h in
    let more = last-found p (i + 1) n xs x (omega (arith, e)) none.1 t in
    rw none.0 more

-- and one that does not pass
last-passed : {X : Type 0} (p : X → Bool) (i : ℕ) (xs : List X) (x : X) → p x ≡ false → position_from p i (xs ++ x ∷ []) ≡ position_from p i xs
last-passed p i [] x f = rw f refl
last-passed p i (y ∷ xs) x f = ap (λ (o : Option ℕ). if p y then Some i else o) (last-passed p (i + 1) xs x f)

-- ---- one event more

abbrev lower : Text → Text
lower name = str_to_ascii_lowercase name

more-at : (events : List EventText) (e : EventText) (n : ℕ) (old : Option ℕ) (q : Text) (b : Bool) → bytes_eq (lower e.name) q ≡ b → n ≡ 0 + length events
    → old ≡ row_of_lower events q → list_any (λ x. same_name x.name e.name) events ≡ false → (if b then Some n else old) ≡ row_of_lower (events ++ e ∷ []) q
more-at events e n old q true t k o fresh =
    let is : lower e.name ≡ q = (bytes_eq-Decides (lower e.name) q).0 t in
    let none = subst (λ (w : Text). list_any (λ (x : EventText). bytes_eq (lower x.name) w) events ≡ false) is fresh in
    sym (last-found (λ (x : EventText). bytes_eq (lower x.name) q) 0 n events e k none t)
more-at events e n old q false f k o fresh = o ∙ sym (last-passed (λ (x : EventText). bytes_eq (lower x.name) q) 0 events e f)

pub indexed-more : (events more : List EventText) (e : EventText) (n : ℕ) (name : Text) (old new : Text → Option ℕ) → more ≡ events ++ e ∷ [] → n ≡ length events → name ≡ e.name
    → ((q : Text) → old q ≡ row_of_lower events q) → list_any (λ x. same_name x.name e.name) events ≡ false
    → ((q : Text) → new q ≡ update bytes_eq old (str_to_ascii_lowercase name) (Some n) q) → (q : Text) → new q ≡ row_of_lower more q
indexed-more events more e n name old new m k is o fresh up q =
    up q ∙ ap (λ (w : Text). update bytes_eq old (lower w) (Some n) q) is
    ∙ more-at events e n (old q) q (bytes_eq (lower e.name) q) refl (omega (arith, k)) (o q) fresh
    ∙ ap (λ (es : List EventText). row_of_lower es q) (sym m)

-- ---- one umask more

row-on_last : (g : EventText → EventText) (q : Text) (i : ℕ) (es : List EventText) → ((e : EventText) → (g e).name ≡ e.name)
    → position_from (λ e. bytes_eq (str_to_ascii_lowercase e.name) q) i (on_last g es) ≡ position_from (λ e. bytes_eq (str_to_ascii_lowercase e.name) q) i es
unfolding on_last
row-on_last g q i [] n = refl
row-on_last g q i (e ∷ []) n = ap (λ (w : Text). if bytes_eq (lower w) q then Some i else None) (n e)
row-on_last g q i (e ∷ f ∷ es) n = ap (λ (o : Option ℕ). if bytes_eq (lower e.name) q then Some i else o) (row-on_last g q (i + 1) (f ∷ es) n)

pub indexed-changed : (g : EventText → EventText) (events more : List EventText) (old : Text → Option ℕ) → ((e : EventText) → (g e).name ≡ e.name) → more ≡ on_last g events
    → ((q : Text) → old q ≡ row_of_lower events q) → (q : Text) → old q ≡ row_of_lower more q
indexed-changed g events more old n is o q = o q ∙ sym (ap (λ (es : List EventText). row_of_lower es q) is ∙ row-on_last g q 0 events n)

pub indexed-masked : (m : MaskText) (events more : List EventText) (old : Text → Option ℕ) → more ≡ on_last (with_mask m) events
    → ((q : Text) → old q ≡ row_of_lower events q) → (q : Text) → old q ≡ row_of_lower more q
indexed-masked m events more old is o q = indexed-changed (with_mask m) events more old (λ e. refl) is o q
