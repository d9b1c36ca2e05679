-- Attributes that are judged one by one give what the definition says of all of them.
use Rattle.name_encoder.proofs.Words.{◌≡◌, ◌∙◌, ◌+◌, ◌<◌, ◌≤◌, ◌==◌, ◌&&◌, ◌||◌, ◌∷◌, ◌++◌, ℕ, zero, suc, Bool, true, false, List, [], Option, Some}
use Rattle.name_encoder.proofs.Words.{None, Ok, Err, Result, length, find, take, option_map, slice_get, refl, sym, ap, ap₂, subst, arith, nat_lt}
use Rattle.name_encoder.proofs.Words.{unwrap_or, is_none, append_assoc, append-nil, set, take-set-lt, eq-eqb, eqb-true, ne_eqb, or_right, length-set}
use Rattle.name_encoder.proofs.Words.{find-append, list_any-append, ⊤, if◌then◌else◌, is_some, AllByRecursion, list_any, option_map_or, option_or}
use Rattle.name_encoder.proofs.Words.{or-false, Text, MaskText, Mods, Attributes, NameFault, Found, Meaning, Modifier, SaidAttribute, Wanted, chosen}
use Rattle.name_encoder.proofs.Words.{clashes, cmask, edge, fault_from, given_to, invert, is_set, kernel, mask, meaning_of, means, mods_of, modifier}
use Rattle.name_encoder.proofs.Words.{named_event, named_from, names_alone, names_mask, native_chosen, native_or, rank, row_alone, said_fault}
use Rattle.name_encoder.proofs.Words.{saids_of, set_to, user, value_of, wanted_of, attribute_of, all_given, flags_given, given_next, is_named}
use Rattle.name_encoder.proofs.Words.{mask_given, mods_given, modifier_given, native_next, nothing, said_given, value_given, wanted_given, with_mask}
use Rattle.name_encoder.proofs.Words.{with_value}
use Rattle.name_encoder.specs.declared.fault.NameFault.TheVariants as name_fault
use Rattle.name_encoder.proofs.Steps.{meaning-row}

abbrev said : Option Meaning → Option Text → SaidAttribute
said o v = record { meaning = o; value = v }

-- what the attributes give a modifier, if they name it
abbrev given_of : List SaidAttribute → Modifier → Option ℕ
given_of xs m = given_to xs m

pub record AreSaid (masks : List MaskText) (xs : List SaidAttribute) (g : Attributes) : Type 0 where
  pub room : length g.named ≡ 16
  pub named : flags_given masks g ≡ named_from xs 0 masks
  pub some : g.some ≡ list_any names_mask xs
  pub alone : g.alone ≡ list_any (names_alone masks) xs
  pub values : (m : Modifier) → value_given g m ≡ given_of xs m

-- ---- nothing is named yet

none-named : (k : ℕ) (masks : List MaskText) (flags : List Bool) → length masks ≤ length flags → AllByRecursion (λ b. b ≡ false) flags → take (length masks) flags ≡ named_from [] k masks
unfolding named_from
none-named k [] flags le h = refl
none-named k (m ∷ masks) [] le h = absurd (omega arith)
none-named k (m ∷ masks) (b ∷ flags) le h = ap₂ (λ (x : Bool) (xs : List Bool). x ∷ xs) h.0 (none-named (k + 1) masks flags (omega (arith, le)) h.1)

all-false : AllByRecursion (λ b. b ≡ false) nothing.named
all-false = (refl, (refl, (refl, (refl, (refl, (refl, (refl, (refl, (refl, (refl, (refl, (refl, (refl, (refl, (refl, (refl, tt))))))))))))))))

no-values : (m : Modifier) → value_given nothing m ≡ given_of [] m
no-values user = refl
no-values m = refl

nothing-given : (masks : List MaskText) → length masks ≤ 16 → AreSaid masks [] nothing
nothing-given masks le = record { room = refl; named = none-named 0 masks nothing.named (omega (arith, le)) all-false; some = refl; alone = refl; values = no-values }

-- ---- one more

any-more : (p : SaidAttribute → Bool) (xs : List SaidAttribute) (s : SaidAttribute) → list_any p (xs ++ s ∷ []) ≡ (list_any p xs || p s)
any-more p xs s = list_any-append p xs (s ∷ []) ∙ ap (λ (b : Bool). list_any p xs || b) (or-false (p s))

find-more : (p : SaidAttribute → Bool) (xs : List SaidAttribute) (s : SaidAttribute) → find p (xs ++ s ∷ []) ≡ option_or (find p xs) (if p s then Some s else None)
find-more p xs s = find-append p xs (s ∷ [])

or-none : {X : Type 0} (o : Option X) → option_or o None ≡ o
or-none None = refl
or-none (Some x) = refl

found-any : (p : SaidAttribute → Bool) (f : SaidAttribute → ℕ) (xs : List SaidAttribute) → is_some (option_map f (find p xs)) ≡ list_any p xs
found-any p f [] = refl
found-any p f (x ∷ xs) = go (p x) (found-any p f xs)
  where
    go : (b : Bool) → is_some (option_map f (find p xs)) ≡ list_any p xs → is_some (option_map f (if b then Some x else find p xs)) ≡ (b || list_any p xs)
    go true h = refl
    go false h = h

-- ---- the flags of named umasks

named-at : (xs : List SaidAttribute) (k i j : ℕ) (masks : List MaskText) → j ≡ k + i → i < length masks → slice_get (named_from xs k masks) i ≡ Some (list_any (means (mask j)) xs)
unfolding named_from
named-at xs k i j [] e lt = absurd (omega (arith, lt))
named-at xs k zero j (m ∷ masks) e lt = ap (λ (x : ℕ). Some (list_any (means (mask x)) xs)) (omega (arith, e))
named-at xs k (suc i) j (m ∷ masks) e lt = named-at xs (k + 1) i j masks (omega (arith, e)) (omega (arith, lt))

get-take : (flags : List Bool) (n i : ℕ) → i < n → slice_get (take n flags) i ≡ slice_get flags i
get-take flags zero i lt = absurd (omega (arith, lt))
get-take [] (suc n) i lt = refl
get-take (b ∷ flags) (suc n) zero lt = refl
get-take (b ∷ flags) (suc n) (suc i) lt = get-take flags n i (omega (arith, lt))

-- a umask of an earlier row, or a modifier, names none of these
named-other : (xs : List SaidAttribute) (o : Option Meaning) (v : Option Text) (k : ℕ) (masks : List MaskText) → ((i : ℕ) → k ≤ i → means (mask i) (said o v) ≡ false)
    → named_from xs k masks ≡ named_from (xs ++ said o v ∷ []) k masks
unfolding named_from
named-other xs o v k [] h = refl
named-other xs o v k (m ∷ masks) h =
    ap₂ (λ (b : Bool) (bs : List Bool). b ∷ bs)
    (sym (any-more (means (mask k)) xs (said o v) ∙ ap (λ (b : Bool). list_any (means (mask k)) xs || b) (h k (omega arith)) ∙ or-false _))
    (named-other xs o v (k + 1) masks (λ i le. h i (omega (arith, le))))

named-set : (xs : List SaidAttribute) (v : Option Text) (k i j : ℕ) (masks : List MaskText) → j ≡ k + i → i < length masks
    → set (named_from xs k masks) i true ≡ named_from (xs ++ said (Some (mask j)) v ∷ []) k masks
unfolding named_from
named-set xs v k i j [] e lt = absurd (omega (arith, lt))
named-set xs v k zero j (m ∷ masks) e lt =
    let same : (k == j) ≡ true = eq-eqb k j (omega (arith, e)) in
    ap₂ (λ (b : Bool) (bs : List Bool). b ∷ bs)
    (sym (any-more (means (mask k)) xs (said (Some (mask j)) v) ∙ ap (λ (b : Bool). list_any (means (mask k)) xs || b) same ∙ or_right _ true refl))
    (named-other xs (Some (mask j)) v (k + 1) masks (λ n le. ne_eqb n j (λ q. absurd (omega (arith, q, e, le)))))
named-set xs v k (suc i) j (m ∷ masks) e lt =
    let other : (k == j) ≡ false = ne_eqb k j (λ q. absurd (omega (arith, q, e))) in
    ap₂ (λ (b : Bool) (bs : List Bool). b ∷ bs)
    (sym (any-more (means (mask k)) xs (said (Some (mask j)) v) ∙ ap (λ (b : Bool). list_any (means (mask k)) xs || b) other ∙ or-false _))
    (named-set xs v (k + 1) i j masks (omega (arith, e)) (omega (arith, lt)))

-- ---- what one more attribute does

abbrev Says : List MaskText → List SaidAttribute → SaidAttribute → Result Attributes NameFault → Type 0
Says masks xs s (Ok n) = (said_fault masks xs s ≡ None) × AreSaid masks (xs ++ s ∷ []) n
Says masks xs s (Err f) = said_fault masks xs s ≡ Some f

mask-values : (g : Attributes) (row : ℕ) (a : Bool) (m : Modifier) → value_given (with_mask g row a) m ≡ value_given g m
mask-values g row a user = refl
mask-values g row a m = refl

mask-more : (masks : List MaskText) (xs : List SaidAttribute) (g : Attributes) (row : ℕ) (v : Option Text) → row < length masks → length masks ≤ 16 → AreSaid masks xs g
    → AreSaid masks (xs ++ said (Some (mask row)) v ∷ []) (with_mask g row (row_alone masks row))
mask-more masks xs g row v lt le h = record {
  room = length-set g.named row true ∙ h.room;
  named = take-set-lt (length masks) g.named row true lt ∙ ap (λ (bs : List Bool). set bs row true) h.named ∙ named-set xs v 0 row row masks (omega arith) lt;
  some = sym (any-more names_mask xs (said (Some (mask row)) v) ∙ or_right _ true refl);
  alone = ap (λ (b : Bool). b || row_alone masks row) h.alone ∙ sym (any-more (names_alone masks) xs (said (Some (mask row)) v));
  values = λ m. mask-values g row (row_alone masks row) m ∙ h.values m
      ∙ sym (ap (λ (o : Option SaidAttribute). option_map (λ s. unwrap_or (value_of (modifier m) s.value) 0) o) (find-more (means (modifier m)) xs (said (Some (mask row)) v) ∙ or-none _));
}

mask-judged : (masks : List MaskText) (xs : List SaidAttribute) (g : Attributes) (row : ℕ) (v : Option Text) → row < length masks → length masks ≤ 16 → AreSaid masks xs g
    → Says masks xs (said (Some (mask row)) v) (mask_given masks g row v)
mask-judged masks xs g row v lt le h = go (is_named g row) (is_some v) (g.some && (g.alone || row_alone masks row)) refl refl refl
  where
    seen : is_named g row ≡ list_any (means (mask row)) xs
    seen = ap (λ (o : Option Bool). unwrap_or o false) (sym (get-take g.named (length masks) row lt) ∙ ap (λ (bs : List Bool). slice_get bs row) h.named ∙ named-at xs 0 row row masks (omega arith) lt)

    valued : (o : Option Text) → is_some o ≡ is_none (value_of (mask row) o)
    valued None = refl
    valued (Some t) = refl

    clash : (g.some && (g.alone || row_alone masks row)) ≡ clashes masks xs (said (Some (mask row)) v)
    clash = ap₂ (λ (a b : Bool). a && b) h.some (ap (λ (b : Bool). b || row_alone masks row) h.alone ∙ sym (any-more (names_alone masks) xs (said (Some (mask row)) v)))

    go : (a b c : Bool) → is_named g row ≡ a → is_some v ≡ b → (g.some && (g.alone || row_alone masks row)) ≡ c
        → Says masks xs (said (Some (mask row)) v) (if a then Err name_fault.AttrSet else if b then Err name_fault.AttrVal else if c then Err name_fault.FeatComb else Ok (with_mask g row (row_alone masks row)))
    go true b c p q r = rw (sym seen ∙ p) refl
    go false true c p q r = rw (sym seen ∙ p, sym (valued v) ∙ q) refl
    go false false true p q r = rw (sym seen ∙ p, sym (valued v) ∙ q, sym clash ∙ r) refl
    go false false false p q r = (rw (sym seen ∙ p, sym (valued v) ∙ q, sym clash ∙ r) refl, mask-more masks xs g row v lt le h)

-- ---- modifiers

value-with : (g : Attributes) (m n : Modifier) (v : ℕ) → value_given (with_value g m v) n ≡ (if rank n == rank m then Some v else value_given g n)
value-with g user user v = refl
value-with g kernel user v = refl
value-with g edge user v = refl
value-with g invert user v = refl
value-with g cmask user v = refl
value-with g m n v = refl

abbrev modifier-at : ℕ → Modifier
modifier-at zero = user
modifier-at (suc zero) = kernel
modifier-at (suc (suc zero)) = edge
modifier-at (suc (suc (suc zero))) = invert
modifier-at (suc (suc (suc (suc n)))) = cmask

-- the other parts stay
record Stays (g n : Attributes) : Type 0 where
  named : n.named ≡ g.named
  some : n.some ≡ g.some
  alone : n.alone ≡ g.alone

stays : (g : Attributes) (m : Modifier) (v : ℕ) → Stays g (with_value g m v)
stays g user v = record { named = refl; some = refl; alone = refl }
stays g m v = record { named = refl; some = refl; alone = refl }

at-rank : (m : Modifier) → modifier-at (rank m) ≡ m
at-rank user = refl
at-rank m = refl

same-rank : (n m : Modifier) → (rank n == rank m) ≡ true → m ≡ n
same-rank n m e = sym (at-rank m) ∙ ap modifier-at (sym (eqb-true (rank n) (rank m) e)) ∙ at-rank n

none-found : {X : Type 0} (f : X → ℕ) (o : Option X) → is_some (option_map f o) ≡ false → o ≡ None
none-found f None e = refl
none-found f (Some x) e = cc e

value-more : (masks : List MaskText) (xs : List SaidAttribute) (g : Attributes) (m : Modifier) (v : Option Text) (k : ℕ) → value_of (modifier m) v ≡ Some k → is_some (value_given g m) ≡ false → AreSaid masks xs g
    → (n : Modifier) → value_given (with_value g m k) n ≡ given_of (xs ++ said (Some (modifier m)) v ∷ []) n
value-more masks xs g m v k is unseen h n = value-with g m n k ∙ go (rank n == rank m) refl
  where
    of : Modifier → SaidAttribute → ℕ
    of x s = unwrap_or (value_of (modifier x) s.value) 0

    s : SaidAttribute
    s = said (Some (modifier m)) v

    not-found : find (means (modifier m)) xs ≡ None
    not-found = none-found (of m) (find (means (modifier m)) xs) (ap is_some (sym (h.values m)) ∙ unseen)

    own : Some k ≡ given_of (xs ++ s ∷ []) m
    own =
        let here : (rank m == rank m) ≡ true = eq-eqb (rank m) (rank m) refl in
        let found : find (means (modifier m)) (xs ++ s ∷ []) ≡ Some s = find-more (means (modifier m)) xs s ∙ rw (not-found, here) refl in
        sym (ap (λ (o : Option SaidAttribute). option_map (of m) o) found ∙ ap (λ (o : Option ℕ). Some (unwrap_or o 0)) is)

    go : (b : Bool) → (rank n == rank m) ≡ b → (if b then Some k else value_given g n) ≡ given_of (xs ++ s ∷ []) n
    go true e = subst (λ (x : Modifier). Some k ≡ given_of (xs ++ s ∷ []) x) (same-rank n m e) own
    go false e =
        let same : find (means (modifier n)) (xs ++ s ∷ []) ≡ find (means (modifier n)) xs = find-more (means (modifier n)) xs s ∙ rw e (or-none (find (means (modifier n)) xs)) in
        h.values n ∙ sym (ap (λ (o : Option SaidAttribute). option_map (of n) o) same)

modifier-more : (masks : List MaskText) (xs : List SaidAttribute) (g : Attributes) (m : Modifier) (v : Option Text) (k : ℕ) → value_of (modifier m) v ≡ Some k
    → is_some (value_given g m) ≡ false → AreSaid masks xs g
    → AreSaid masks (xs ++ said (Some (modifier m)) v ∷ []) (with_value g m k)
modifier-more masks xs g m v k is unseen h =
    let s = stays g m k in
    record {
      room = ap length s.named ∙ h.room;
      named = ap (take (length masks)) s.named ∙ h.named ∙ named-other xs (Some (modifier m)) v 0 masks (λ i le. refl);
      some = s.some ∙ h.some ∙ sym (any-more names_mask xs (said (Some (modifier m)) v) ∙ or-false _);
      alone = s.alone ∙ h.alone ∙ sym (any-more (names_alone masks) xs (said (Some (modifier m)) v) ∙ or-false _);
      values = value-more masks xs g m v k is unseen h;
    }

modifier-judged : (masks : List MaskText) (xs : List SaidAttribute) (g : Attributes) (m : Modifier) (v : Option Text) → AreSaid masks xs g → Says masks xs (said (Some (modifier m)) v) (modifier_given g m v)
modifier-judged masks xs g m v h = go (is_some (value_given g m)) (value_of (modifier m) v) refl refl
  where
    seen : is_some (value_given g m) ≡ list_any (means (modifier m)) xs
    seen = ap is_some (h.values m) ∙ found-any (means (modifier m)) (λ s. unwrap_or (value_of (modifier m) s.value) 0) xs

    go : (a : Bool) (o : Option ℕ) → is_some (value_given g m) ≡ a → value_of (modifier m) v ≡ o
        → Says masks xs (said (Some (modifier m)) v) (if a then Err name_fault.AttrSet else option_map_or (λ k. Ok (with_value g m k)) o (Err name_fault.AttrVal))
    go true o p q = rw (sym seen ∙ p) refl
    go false None p q = rw (sym seen ∙ p, q) refl
    go false (Some k) p q = (rw (sym seen ∙ p, q) refl, modifier-more masks xs g m v k q p h)

-- ---- all of them

-- a umask's row is one of n
abbrev Ranged : ℕ → Option Meaning → Type 0
Ranged n None = ⊤
Ranged n (Some (mask row)) = row < n
Ranged n (Some (modifier m)) = ⊤

judged : (masks : List MaskText) (xs : List SaidAttribute) (g : Attributes) (o : Option Meaning) (v : Option Text) → Ranged (length masks) o → length masks ≤ 16 → AreSaid masks xs g
    → Says masks xs (said o v) (said_given masks g (said o v))
judged masks xs g None v r le h = refl
judged masks xs g (Some (mask row)) v r le h = mask-judged masks xs g row v r le h
judged masks xs g (Some (modifier m)) v r le h = modifier-judged masks xs g m v h

abbrev AllSays : List MaskText → List SaidAttribute → List SaidAttribute → Result Attributes NameFault → Type 0
AllSays masks xs rest (Ok n) = (fault_from masks xs rest ≡ None) × AreSaid masks (xs ++ rest) n
AllSays masks xs rest (Err f) = fault_from masks xs rest ≡ Some f

all-judged : (masks : List MaskText) (xs rest : List SaidAttribute) (g : Attributes) → AllByRecursion (λ (s : SaidAttribute). Ranged (length masks) s.meaning) rest → length masks ≤ 16 → AreSaid masks xs g
    → AllSays masks xs rest (all_given masks g rest)
unfolding all_given fault_from
all-judged masks xs [] g r le h = (refl, subst (λ (t : List SaidAttribute). AreSaid masks t g) (sym (append-nil xs)) h)
all-judged masks xs (s ∷ rest) g r le h =
    go (said_given masks g s) (judged masks xs g s.meaning s.value r.0 le h) (λ n k. all-judged masks (xs ++ s ∷ []) rest n r.1 le k)
  where
    carry : said_fault masks xs s ≡ None → (x : Result Attributes NameFault) → AllSays masks (xs ++ s ∷ []) rest x → AllSays masks xs (s ∷ rest) x
    carry e (Ok n) p = (rw e p.0, subst (λ (t : List SaidAttribute). AreSaid masks t n) (append_assoc xs (s ∷ []) rest) p.1)
    carry e (Err f) p = rw e p

    go : (x : Result Attributes NameFault) → Says masks xs s x → ((n : Attributes) → AreSaid masks (xs ++ s ∷ []) n → AllSays masks (xs ++ s ∷ []) rest (all_given masks n rest))
        → AllSays masks xs (s ∷ rest) (given_next (λ n. all_given masks n rest) x)
    go (Err f) e more = rw e refl
    go (Ok n) e more = carry e.0 (all_given masks n rest) (more n e.1)

ranged : (masks : List MaskText) (name : Text) (o : Option Meaning) → meaning_of masks name ≡ o → Ranged (length masks) o
ranged masks name (Some (mask row)) e = meaning-row masks name row e
ranged masks name o e = tt

all-ranged : (masks : List MaskText) (texts : List Text) → AllByRecursion (λ (s : SaidAttribute). Ranged (length masks) s.meaning) (saids_of masks texts)
all-ranged masks [] = tt
all-ranged masks (t ∷ texts) = (ranged masks (attribute_of t).name _ refl, all-ranged masks texts)

-- ---- the native event

set-given : (xs : List SaidAttribute) (m : Modifier) → set_to xs m ≡ unwrap_or (given_of xs m) 0
unfolding set_to
set-given xs m = go (find (means (modifier m)) xs)
  where
    go : (o : Option SaidAttribute) → option_map_or (λ (s : SaidAttribute). unwrap_or (value_of (modifier m) s.value) 0) o 0 ≡ unwrap_or (option_map (λ (s : SaidAttribute). unwrap_or (value_of (modifier m) s.value) 0) o) 0
    go None = refl
    go (Some s) = refl

mods : Bool → Bool → Bool → Bool → ℕ → Mods
mods a b c d e = record { user = a; kernel = b; edge = c; invert = d; cmask = e }

mods-given : (masks : List MaskText) (xs : List SaidAttribute) (g : Attributes) → AreSaid masks xs g → mods_given g ≡ mods_of xs
mods-given masks xs g h =
    let set : (m : Modifier) → unwrap_or (value_given g m) 0 ≡ set_to xs m = λ m. ap (λ (o : Option ℕ). unwrap_or o 0) (h.values m) ∙ sym (set-given xs m) in
    let on : (m : Modifier) → nat_lt 0 (unwrap_or (value_given g m) 0) ≡ is_set xs m = λ m. ap (nat_lt 0) (set m) in
    rw (on user, on kernel, on edge, on invert, set cmask) refl

wanted-given : (masks : List MaskText) (xs : List SaidAttribute) (g : Attributes) → AreSaid masks xs g → wanted_given g ≡ wanted_of xs
wanted-given masks xs g h =
    let e : g.edge ≡ given_to xs edge = h.values edge in
    let i : g.invert ≡ given_to xs invert = h.values invert in
    let c : g.cmask ≡ given_to xs cmask = h.values cmask in
    rw (e, i, c) refl

-- what is judged one by one is what the definition names
pub named-given : (f : Found) (texts : List Text) → length f.event.masks ≤ 16
    → native_next f (all_given f.event.masks nothing (saids_of f.event.masks texts)) ≡ named_event f (saids_of f.event.masks texts)
named-given f texts le = go (all_given masks nothing xs) (all-judged masks [] xs nothing (all-ranged masks texts) le (nothing-given masks le))
  where
    masks : List MaskText
    masks = f.event.masks

    xs : List SaidAttribute
    xs = saids_of masks texts

    go : (x : Result Attributes NameFault) → AllSays masks [] xs x → native_next f x ≡ named_event f xs
    go (Err fault) e = rw e refl
    go (Ok g) e =
        ap₂ (λ (m : Mods) (flags : List Bool). native_chosen f (wanted_given g) m (chosen masks flags)) (mods-given masks xs g e.1) e.1.named
        ∙ ap (λ (w : Wanted). native_chosen f w (mods_of xs) (chosen masks (named_from xs 0 masks))) (wanted-given masks xs g e.1)
        ∙ ap (λ (o : Option NameFault). native_or f (wanted_of xs) (mods_of xs) o (chosen masks (named_from xs 0 masks))) (sym e.0)
