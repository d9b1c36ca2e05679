-- Texts with no blanks at their ends, and the texts of numbers.
use Rattle.std.proofs.Common.{◌≡◌, ◌∙◌, ◌<◌, ◌≤◌, ◌^◌, ◌∷◌, ◌++◌, ℕ, Bool, true, false, not, List, [], length, reverse, refl, sym, ap, subst, arith, tests, decimal}
use Rattle.std.specs.Prelude.{⊤, ◌||◌, Option, Some, None, if◌then◌else◌}
use Rattle.table_rows.proofs.Words.{option_map_or, reverse-append, reverse-reverse, and_from, cond_both, or_parts, decimal_is_IsNumeral}
use Rattle.table_rows.proofs.Words.{digit_from_value, AllByRecursion, list_all, list_any, AllDigits, digits_value, NoTwo, Text, is_blank, is_digit}
use Rattle.table_rows.proofs.Words.{is_empty, is_numeral, trimmed, without_front}

pub all-append : {X : Type 0} (P : X → Type 0) (xs ys : List X) → AllByRecursion P xs → AllByRecursion P ys → AllByRecursion P (xs ++ ys)
all-append P [] ys h k = k
all-append P (x ∷ xs) ys h k = (h.0, all-append P xs ys h.1 k)

pub all-reverse : {X : Type 0} (P : X → Type 0) (xs : List X) → AllByRecursion P xs → AllByRecursion P (reverse xs)
all-reverse P [] h = h
all-reverse P (x ∷ xs) h = subst (AllByRecursion P) (sym (reverse-append (x ∷ []) xs)) (all-append P (reverse xs) (x ∷ []) (all-reverse P xs h.1) (h.0, tt))

pub all-map : {X : Type 0} (P Q : X → Type 0) (xs : List X) → ((x : X) → P x → Q x) → AllByRecursion P xs → AllByRecursion Q xs
all-map P Q [] f h = h
all-map P Q (x ∷ xs) f h = (f x h.0, all-map P Q xs f h.1)

pub no_two-more : {X : Type 0} (together : X → X → Bool) (xs : List X) (n : X) → NoTwo together xs → list_any (λ x. together x n) xs ≡ false → NoTwo together (xs ++ n ∷ [])
no_two-more together [] n h e = (tt, tt)
no_two-more together (x ∷ xs) n h e =
    let p = or_parts (together x n) (list_any (λ y. together y n) xs) e in
    (all-append (λ y. together x y ≡ false) xs (n ∷ []) h.0 (p.0, tt), no_two-more together xs n h.1 p.1)

pub or-false : (b : Bool) → (b || false) ≡ b
or-false true = refl
or-false false = refl

-- what holds of a value that a test gives, and of one that the rest gives
pub given : {X : Type 0} (P : X → Type 0) (b : Bool) (x : X) (o : Option X) {y : X} → (if b then Some x else o) ≡ Some y → (b ≡ true → P x) → (o ≡ Some y → P y) → P y
given P true x o {y} e h k = let same : x ≡ y = cc e in subst P same (h refl)
given P false x o e h k = k e

pub option_both : {X Y : Type 0} (P : Y → Type 0) (f : X → Y) (o : Option X) (d : Y) → ((x : X) → o ≡ Some x → P (f x)) → P d → P (option_map_or f o d)
option_both P f None d h k = k
option_both P f (Some x) d h k = h x refl

-- no byte is a blank
abbrev pub NoBlanks : Text → Type 0
NoBlanks t = AllByRecursion (λ b. is_blank b ≡ false) t

front-plain : (t : Text) → NoBlanks t → without_front t ≡ t
unfolding without_front
front-plain [] h = refl
front-plain (b ∷ t) h = rw h.0 refl

pub trimmed-plain : (t : Text) → NoBlanks t → trimmed t ≡ t
unfolding trimmed
trimmed-plain t h =
    ap (λ (u : Text). reverse (without_front (reverse u))) (front-plain t h)
    ∙ ap reverse (front-plain (reverse t) (all-reverse (λ b. is_blank b ≡ false) t h)) ∙ reverse-reverse t

-- ---- numerals

abbrev pub Digits : Text → Type 0
Digits t = AllByRecursion (λ b. (48 ≤ b) × (b ≤ 57)) t

pub digits-from : (t : Text) → AllDigits 10 t → Digits t
digits-from [] h = tt
digits-from (b ∷ t) h = (digit_from_value b h.0, digits-from t h.1)

pub digits-all : (t : Text) → Digits t → list_all is_digit t ≡ true
digits-all [] h = refl
digits-all (b ∷ t) h = and_from (is_digit b) (list_all is_digit t) (grind (arith, tests, h.0)) (digits-all t h.1)

pub decimal-digits : (n : ℕ) → n < 2 ^ 64 → Digits (decimal n)
decimal-digits n lt = digits-from (decimal n) (decimal_is_IsNumeral n lt).0.1

pub decimal-numeral : (n : ℕ) → n < 2 ^ 64 → is_numeral (decimal n) ≡ true
unfolding is_numeral
decimal-numeral n lt =
    let h = decimal_is_IsNumeral n lt in
    and_from _ _ (digits-all (decimal n) (decimal-digits n lt)) (filled (decimal n) h.0.0)
  where
    filled : (t : Text) → 0 < length t → not (is_empty t) ≡ true
    filled [] p = absurd (omega arith)
    filled (b ∷ t) p = refl

pub decimal-value : (n : ℕ) → n < 2 ^ 64 → digits_value 10 (decimal n) ≡ n
decimal-value n lt = (decimal_is_IsNumeral n lt).1

-- ---- trimming

front-all : (P : ℕ → Type 0) (t : Text) → AllByRecursion P t → AllByRecursion P (without_front t)
unfolding without_front
front-all P [] h = h
front-all P (b ∷ t) h = cond_both (is_blank b) (without_front t) (b ∷ t) (AllByRecursion P) (λ e. front-all P t h.1) (λ e. h)

pub trimmed-all : (P : ℕ → Type 0) (t : Text) → AllByRecursion P t → AllByRecursion P (trimmed t)
unfolding trimmed
trimmed-all P t h = all-reverse P _ (front-all P _ (all-reverse P _ (front-all P t h)))

-- a text that is empty or begins with no blank
abbrev Begins : Text → Type 0
Begins [] = ⊤
Begins (b ∷ t) = is_blank b ≡ false

front-begins : (t : Text) → Begins (without_front t)
unfolding without_front
front-begins [] = tt
front-begins (b ∷ t) = cond_both (is_blank b) (without_front t) (b ∷ t) Begins (λ e. front-begins t) (λ e. e)

front-same : (t : Text) → Begins t → without_front t ≡ t
unfolding without_front
front-same [] h = refl
front-same (b ∷ t) h = rw h refl

front-last : (t : Text) (b : ℕ) → is_blank b ≡ false → without_front (t ++ b ∷ []) ≡ without_front t ++ b ∷ []
unfolding without_front
front-last [] b e = rw e refl
front-last (c ∷ t) b e = go (is_blank c) (front-last t b e)
  where
    go : (d : Bool) → without_front (t ++ b ∷ []) ≡ without_front t ++ b ∷ [] → (if d then without_front (t ++ b ∷ []) else c ∷ (t ++ b ∷ [])) ≡ (if d then without_front t else c ∷ t) ++ b ∷ []
    go true k = k
    go false k = refl

back-begins : (u : Text) → Begins u → Begins (reverse (without_front (reverse u)))
unfolding without_front
back-begins [] h = tt
back-begins (b ∷ u) h =
    let r : reverse (b ∷ u) ≡ reverse u ++ b ∷ [] = reverse-append (b ∷ []) u in
    let f = front-last (reverse u) b h in
    let s : reverse (without_front (reverse u) ++ b ∷ []) ≡ b ∷ reverse (without_front (reverse u)) = reverse-append (without_front (reverse u)) (b ∷ []) in
    subst Begins (sym (ap (λ (t : Text). reverse (without_front t)) r ∙ ap reverse f ∙ s)) h

pub trimmed-once : (t : Text) → trimmed (trimmed t) ≡ trimmed t
unfolding trimmed
trimmed-once t =
    let u = without_front t in
    let y = reverse (without_front (reverse u)) in
    let front : without_front y ≡ y = front-same y (back-begins u (front-begins t)) in
    let back : reverse y ≡ without_front (reverse u) = reverse-reverse (without_front (reverse u)) in
    ap (λ (x : Text). reverse (without_front (reverse x))) front
    ∙ ap (λ (x : Text). reverse (without_front x)) back
    ∙ ap reverse (front-same (without_front (reverse u)) (front-begins (reverse u)))
