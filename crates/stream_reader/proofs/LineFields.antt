-- The fields of a whole line.
use Rattle.stream_reader.proofs.Words.{◌≡◌, ◌∙◌, ◌++◌, ◌∷◌, ◌==◌, ℕ, Bool, true, false, List, [], Some, None, refl, ap, arith, list_all}
use Rattle.stream_reader.proofs.Words.{AllByRecursion, and_parts, nat_tests, decimal_in, hex_in, Head, mode_of, without_return, after_field}
use Rattle.stream_reader.proofs.Words.{event_occurrence_on, first_field, occurrence_on, stamp_after, tail_on, is_inner, is_plain}

no-space : (b : ℕ) → is_inner b ≡ true → (b == 32) ≡ false
no-space b h = grind (arith, nat_tests)

inner-plain : (b : ℕ) → is_inner b ≡ true → is_plain b ≡ true
inner-plain b h = grind (arith, nat_tests)

no-newline : (b : ℕ) → is_plain b ≡ true → (b == 10) ≡ false
no-newline b h = grind (arith, nat_tests)

no-return : (b : ℕ) → is_plain b ≡ true → (b == 13) ≡ false
no-return b h = grind (arith, nat_tests)

-- ---- a field and what comes after it

-- a text that begins with the end of a field
pub first-of : (f r : List ℕ) → list_all is_inner f ≡ true → first_field r ≡ [] → first_field (f ++ r) ≡ f
unfolding first_field
first-of [] r h e = e
first-of (b ∷ f) r h e = let p = and_parts (is_inner b) (list_all is_inner f) h in rw (no-space b p.0) (ap (λ x. b ∷ x) (first-of f r p.1 e))

pub after-of : (f r : List ℕ) → list_all is_inner f ≡ true → after_field (f ++ r) ≡ after_field r
unfolding after_field
after-of [] r h = refl
after-of (b ∷ f) r h = let p = and_parts (is_inner b) (list_all is_inner f) h in rw (no-space b p.0) (after-of f r p.1)

pub space-first : (r : List ℕ) → first_field (32 ∷ r) ≡ []
unfolding first_field
space-first r = refl

space-after : (r : List ℕ) → after_field (32 ∷ r) ≡ Some r
unfolding after_field
space-after r = refl

field-first : (f r : List ℕ) → list_all is_inner f ≡ true → first_field (f ++ 32 ∷ r) ≡ f
field-first f r h = first-of f (32 ∷ r) h (space-first r)

field-after : (f r : List ℕ) → list_all is_inner f ≡ true → after_field (f ++ 32 ∷ r) ≡ Some r
field-after f r h = after-of f (32 ∷ r) h ∙ space-after r

pub last-first : (f : List ℕ) → list_all is_inner f ≡ true → first_field f ≡ f
unfolding first_field
last-first [] h = refl
last-first (b ∷ f) h = let p = and_parts (is_inner b) (list_all is_inner f) h in rw (no-space b p.0) (ap (λ x. b ∷ x) (last-first f p.1))

pub last-after : (f : List ℕ) → list_all is_inner f ≡ true → after_field f ≡ None
unfolding after_field
last-after [] h = refl
last-after (b ∷ f) h = let p = and_parts (is_inner b) (list_all is_inner f) h in rw (no-space b p.0) (last-after f p.1)

-- ---- no newline and no carriage return

pub plain-of : (f r : List ℕ) → list_all is_inner f ≡ true → list_all is_plain r ≡ true → list_all is_plain (f ++ r) ≡ true
plain-of [] r h q = q
plain-of (b ∷ f) r h q = let p = and_parts (is_inner b) (list_all is_inner f) h in rw (inner-plain b p.0, plain-of f r p.1 q) refl

pub all-plain : (f : List ℕ) → list_all is_inner f ≡ true → list_all is_plain f ≡ true
all-plain [] h = refl
all-plain (b ∷ f) h = let p = and_parts (is_inner b) (list_all is_inner f) h in rw (inner-plain b p.0, all-plain f p.1) refl

pub plain-one : (t : List ℕ) → list_all is_plain t ≡ true → AllByRecursion (λ b. (b == 10) ≡ false) t
plain-one [] h = tt
plain-one (b ∷ t) h = let p = and_parts (is_plain b) (list_all is_plain t) h in (no-newline b p.0, plain-one t p.1)

pub plain-whole : (t : List ℕ) → list_all is_plain t ≡ true → without_return t ≡ t
unfolding without_return
plain-whole [] h = refl
plain-whole (b ∷ []) h = let p = and_parts (is_plain b) true h in rw (no-return b p.0) refl
plain-whole (b ∷ c ∷ t) h = let p = and_parts (is_plain b) (list_all is_plain (c ∷ t)) h in ap (λ u. b ∷ u) (plain-whole (c ∷ t) p.1)

-- ---- a carriage return after a text

pub return-one : (t : List ℕ) → list_all is_plain t ≡ true → AllByRecursion (λ b. (b == 10) ≡ false) (t ++ 13 ∷ [])
return-one [] h = (refl, tt)
return-one (b ∷ t) h = let p = and_parts (is_plain b) (list_all is_plain t) h in (no-newline b p.0, return-one t p.1)

pub return-whole : (t : List ℕ) → without_return (t ++ 13 ∷ []) ≡ t
unfolding without_return
return-whole [] = refl
return-whole (b ∷ []) = refl
return-whole (b ∷ c ∷ t) = ap (λ u. b ∷ u) (return-whole (c ∷ t))

-- ---- six fields, and what comes after them

abbrev pub line : List ℕ → List ℕ → List ℕ → List ℕ → List ℕ → List ℕ → List ℕ → List ℕ
line a b d e f g s = a ++ 32 ∷ (b ++ 32 ∷ (d ++ 32 ∷ (e ++ 32 ∷ (f ++ 32 ∷ (g ++ s)))))

pub record AreInner (a b d e f g : List ℕ) : Type 0 where
  pub comp : list_all is_inner a ≡ true
  pub select : list_all is_inner b ≡ true
  pub umask : list_all is_inner d ≡ true
  pub kernel : list_all is_inner e ≡ true
  pub amount : list_all is_inner f ≡ true
  pub pc : list_all is_inner g ≡ true

pub fields-plain : (a b d e f g : List ℕ) → AreInner a b d e f g → list_all is_plain (a ++ 32 ∷ (b ++ 32 ∷ (d ++ 32 ∷ (e ++ 32 ∷ (f ++ 32 ∷ g))))) ≡ true
fields-plain a b d e f g i = plain-of a _ i.comp (plain-of b _ i.select (plain-of d _ i.umask (plain-of e _ i.kernel (plain-of f _ i.amount (all-plain g i.pc)))))

tail-is : (stamped : Bool) (count : ℕ) (f g s : List ℕ) (amount pc stamp : ℕ) → list_all is_inner f ≡ true → list_all is_inner g ≡ true → first_field s ≡ []
    → decimal_in 1 255 f ≡ Some amount → hex_in 1 16 g ≡ Some pc → stamp_after stamped count (after_field s) ≡ Some stamp
    → tail_on stamped count (f ++ 32 ∷ (g ++ s)) ≡ Some (record { amount = amount; pc = pc; stamp = stamp })
unfolding tail_on
tail-is stamped count f g s amount pc stamp i j e p q r = rw (field-first f (g ++ s) i, field-after f (g ++ s) i, p, first-of g s j e, after-of g s j, q, r) refl

pub line-is : (stamped : Bool) (count : ℕ) (a b d e f g s : List ℕ) (comp : ℕ) (h : Head) (amount pc stamp : ℕ) → AreInner a b d e f g → first_field s ≡ []
    → decimal_in 0 15 a ≡ Some comp → hex_in 2 2 b ≡ Some h.select → hex_in 2 2 d ≡ Some h.umask → mode_of e ≡ Some h.kernel → decimal_in 1 255 f ≡ Some amount → hex_in 1 16 g ≡ Some pc
    → stamp_after stamped count (after_field s) ≡ Some stamp
    → occurrence_on stamped count (line a b d e f g s)
    ≡ Some (record { comp = comp; select = h.select; umask = h.umask; kernel = h.kernel; amount = amount; pc = pc; stamp = stamp })
unfolding occurrence_on event_occurrence_on
line-is stamped count a b d e f g s comp h amount pc stamp i ends p q r t u v w =
    let five = f ++ 32 ∷ (g ++ s) in
    let four = e ++ 32 ∷ five in
    let three = d ++ 32 ∷ four in
    let two = b ++ 32 ∷ three in
    rw (
      field-first a two i.comp,
      field-after a two i.comp,
      p,
      field-first b three i.select,
      field-after b three i.select,
      q,
      field-first d four i.umask,
      field-after d four i.umask,
      r,
      field-first e five i.kernel,
      field-after e five i.kernel,
      t,
      tail-is stamped count f g s amount pc stamp i.amount i.pc ends u v w,
    ) refl
