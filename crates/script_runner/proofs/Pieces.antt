-- Texts of items that are gathered and written one after another.
use Rattle.script_runner.proofs.Words.{◌≡◌, ◌∙◌, ◌<◌, ◌≤◌, ◌+◌, ◌∷◌, ◌++◌, ℕ, List, [], Option, Some, None, length, take, drop, refl, sym, ap, subst}
use Rattle.script_runner.proofs.Words.{append_assoc, length-append, arith, get_or, take-append-add, append-nil, drop_more, take-append-le}
use Rattle.script_runner.proofs.Words.{take-append-drop, take_all, take_more, flat_map-append, flat_map, Err, Ok, OnErr, Result, appended}
use Rattle.script_runner.proofs.Words.{IsPartWritten, IsWrittenSoFar}

pub appended-append : (o : Option (List ℕ)) (xs ys : List ℕ) → appended (appended o xs) ys ≡ appended o (xs ++ ys)
appended-append None xs ys = refl
appended-append (Some zs) xs ys = ap Some (append_assoc zs xs ys)

pub nothing-more : (taken : Option (List ℕ)) → taken ≡ appended taken []
nothing-more None = refl
nothing-more (Some zs) = ap Some (sym (append-nil zs))

-- ---- a text and what comes after it

gathered-more : (before taken : Option (List ℕ)) (text more gathered : List ℕ) → IsWrittenSoFar before taken text gathered → IsWrittenSoFar before taken (text ++ more) (gathered ++ more)
gathered-more before taken text more gathered w = record {
  written = w.written;
  taken = w.taken;
  whole = ap (λ t. t ++ more) w.whole ∙ append_assoc w.written gathered more;
}

written-more : (before taken taken' : Option (List ℕ)) (text gathered gathered' : List ℕ) → IsWrittenSoFar before taken text gathered → IsWrittenSoFar taken taken' gathered gathered' → IsWrittenSoFar before taken' text gathered'
written-more before taken taken' text gathered gathered' w m = record {
  written = w.written ++ m.written;
  taken = m.taken ∙ ap (λ o. appended o m.written) w.taken ∙ appended-append before w.written m.written;
  whole = w.whole ∙ ap (λ t. w.written ++ t) m.whole ∙ sym (append_assoc w.written m.written gathered');
}

-- a prefix of what was gathered makes a prefix of the text
part-whole : (before taken taken' : Option (List ℕ)) (text gathered : List ℕ) → IsWrittenSoFar before taken text gathered → IsPartWritten taken taken' gathered → IsPartWritten before taken' text
part-whole before taken taken' text gathered w (k, small, part) =
    let cut : take (length w.written + k) text ≡ w.written ++ take k gathered = ap (take (length w.written + k)) w.whole ∙ take-append-add w.written gathered k in (
      length w.written + k,
      omega (arith, ap length w.whole, length-append w.written gathered),
      part ∙ ap (λ o. appended o (take k gathered)) w.taken ∙ appended-append before w.written (take k gathered) ∙ ap (appended before) (sym cut),
    )

part-longer : (before after : Option (List ℕ)) (text more : List ℕ) → IsPartWritten before after text → IsPartWritten before after (text ++ more)
part-longer before after text more (k, small, part) = (k, omega (arith, length-append text more), part ∙ ap (appended before) (sym (take-append-le k text more small)))

-- ---- the texts of items

text-cut : {X : Type 0} (f : X → List ℕ) (xs : List X) (i : ℕ) (x : X) → i < length xs → x ≡ get_or xs i x → flat_map f xs ≡ (flat_map f (take i xs) ++ f x) ++ flat_map f (drop (i + 1) xs)
text-cut f xs i x h e =
    ap (flat_map f) (sym (take-append-drop i xs) ∙ ap (λ ys. take i xs ++ ys) (drop_more xs i x h)) ∙ flat_map-append f (take i xs) (get_or xs i x ∷ drop (i + 1) xs)
    ∙ ap (λ y. flat_map f (take i xs) ++ (f y ++ flat_map f (drop (i + 1) xs))) (sym e)
    ∙ sym (append_assoc (flat_map f (take i xs)) (f x) (flat_map f (drop (i + 1) xs)))

text-next : {X : Type 0} (f : X → List ℕ) (xs : List X) (i : ℕ) (x : X) → i < length xs → x ≡ get_or xs i x → flat_map f (take (i + 1) xs) ≡ flat_map f (take i xs) ++ f x
text-next f xs i x h e =
    ap (flat_map f) (take_more xs i x h) ∙ flat_map-append f (take i xs) (get_or xs i x ∷ []) ∙ ap (λ y. flat_map f (take i xs) ++ (f y ++ [])) (sym e) ∙ ap (λ t. flat_map f (take i xs) ++ t) (append-nil (f x))

-- one item's text more
pub item-written : {X : Type 0} (f : X → List ℕ) (before taken taken' : Option (List ℕ)) (xs : List X) (i : ℕ) (x : X) (gathered gathered' : List ℕ) → i < length xs → x ≡ get_or xs i x
    → IsWrittenSoFar before taken (flat_map f (take i xs)) gathered → IsWrittenSoFar taken taken' (gathered ++ f x) gathered' → IsWrittenSoFar before taken' (flat_map f (take (i + 1) xs)) gathered'
item-written f before taken taken' xs i x gathered gathered' h e w m =
    subst (λ t. IsWrittenSoFar before taken' t gathered') (sym (text-next f xs i x h e))
    (written-more before taken taken' (flat_map f (take i xs) ++ f x) (gathered ++ f x) gathered' (gathered-more before taken (flat_map f (take i xs)) (f x) gathered w) m)

-- a prefix, if an item's text was not gathered, or if a piece with it was not written
pub item-part : {X : Type 0} (f : X → List ℕ) (before taken taken' : Option (List ℕ)) (xs : List X) (i : ℕ) (x : X) (gathered : List ℕ) → i < length xs → x ≡ get_or xs i x
    → IsWrittenSoFar before taken (flat_map f (take i xs)) gathered → IsPartWritten taken taken' (gathered ++ f x) → IsPartWritten before taken' (flat_map f xs)
item-part f before taken taken' xs i x gathered h e w part =
    subst (IsPartWritten before taken') (sym (text-cut f xs i x h e))
    (part-longer before taken' (flat_map f (take i xs) ++ f x) (flat_map f (drop (i + 1) xs))
    (part-whole before taken taken' (flat_map f (take i xs) ++ f x) (gathered ++ f x) (gathered-more before taken (flat_map f (take i xs)) (f x) gathered w) part))

pub none-part : (taken : Option (List ℕ)) (text : List ℕ) → IsPartWritten taken taken text
none-part taken text = (0, omega arith, nothing-more taken)

-- a prefix, if all texts were gathered
pub last-part : {X : Type 0} (f : X → List ℕ) (before taken taken' : Option (List ℕ)) (xs : List X) (i : ℕ) (gathered : List ℕ) → length xs ≤ i
    → IsWrittenSoFar before taken (flat_map f (take i xs)) gathered → IsPartWritten taken taken' gathered → IsPartWritten before taken' (flat_map f xs)
last-part f before taken taken' xs i gathered h w part = subst (λ ys. IsPartWritten before taken' (flat_map f ys)) (take_all i xs h) (part-whole before taken taken' (flat_map f (take i xs)) gathered w part)

pub always_on_err : {T E P : Type 0} (r : Result T E) → P → OnErr r P
always_on_err (Ok x) p = tt
always_on_err (Err e) p = p
