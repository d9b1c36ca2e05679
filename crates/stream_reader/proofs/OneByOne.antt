-- The fields one by one are the fields of the whole line.
use Rattle.stream_reader.proofs.Words.{◌≡◌, ◌∙◌, ◌+◌, ◌<◌, ◌==◌, ◌∷◌, ℕ, suc, Bool, true, false, List, [], Option, Some, None, length, refl, sym, ap}
use Rattle.stream_reader.proofs.Words.{arith, if◌then◌else◌, ne_eqb, nat_tests, decimal_in, flag_bit, hex_in, Occ, fields_of, given, has_fields}
use Rattle.stream_reader.proofs.Words.{mode_of, occ_of, after_field, ends_with, event_occurrence_on, first_field, occurrence_on, stamp_after, tail_on}
use Rattle.stream_reader.proofs.Rests.{fields_after, fields-first}

abbrev Text : Type 0
Text = List ℕ

-- the next field, if there is one
abbrev next : {X : Type 0} → List Text → (Text → List Text → Option X) → Option X
next [] k = None
next (f ∷ rest) k = k f rest

abbrev ended : {X : Type 0} → List Text → X → Option X
ended [] x = Some x
ended (f ∷ rest) x = None

abbrev stamp_from : Bool → ℕ → List Text → Option ℕ
stamp_from stamped count rest = if stamped then next rest (λ f r. given (decimal_in 0 4294967294 f) (ended r)) else ended rest count

unfoldable occurrence_from : Bool → ℕ → List Text → Option Occ
occurrence_from stamped count fields =
    next fields (λ f1 r1. given (decimal_in 0 15 f1) (λ comp.
    next r1 (λ f2 r2. given (hex_in 2 2 f2) (λ select.
    next r2 (λ f3 r3. given (hex_in 2 2 f3) (λ umask.
    next r3 (λ f4 r4. given (mode_of f4) (λ kernel.
    next r4 (λ f5 r5. given (decimal_in 1 255 f5) (λ amount.
    next r5 (λ f6 r6. given (hex_in 1 16 f6) (λ pc.
    given (stamp_from stamped count r6) (λ stamp.
    Some (record { comp = comp; select = select; umask = umask; kernel = kernel; amount = amount; pc = pc; stamp = stamp }))))))))))))))

-- ---- what goes on from a value

given-same : {X Y : Type 0} (o : Option X) (k l : X → Option Y) → ((x : X) → k x ≡ l x) → given o k ≡ given o l
given-same None k l h = refl
given-same (Some x) k l h = h x

given-none : {X Y : Type 0} (o : Option X) (k : X → Option Y) → ((x : X) → k x ≡ None) → given o k ≡ None
given-none None k h = refl
given-none (Some x) k h = h x

given-given : {X Y Z : Type 0} (o : Option X) (k : X → Option Y) (l : Y → Option Z) → given (given o k) l ≡ given o (λ x. given (k x) l)
given-given None k l = refl
given-given (Some x) k l = refl

stamped-none : {X Y Z : Type 0} (o : Option X) (k : Y → Option Z) → given (given o (λ _. None)) k ≡ None
stamped-none None k = refl
stamped-none (Some x) k = refl

given-itself : {X : Type 0} (o : Option X) → given o (λ x. Some x) ≡ o
given-itself None = refl
given-itself (Some x) = refl

given-next : {Y : Type 0} (o : Option Text) (k : Text → Option Y) (l : Text → List Text → Option Y) → ((t : Text) → k t ≡ l (first_field t) (fields_after (after_field t))) → given o k ≡ next (fields_after o) l
unfolding fields_after
given-next None k l h = refl
given-next (Some t) k l h = h t ∙ sym (ap (λ fields. next fields l) (fields-first t))

ends-is : {X : Type 0} (o : Option Text) (x : X) → ends_with o x ≡ ended (fields_after o) x
unfolding fields_after
ends-is None x = refl
ends-is (Some t) x = sym (ap (λ fields. ended fields x) (fields-first t))

stamp-is : (stamped : Bool) (count : ℕ) (o : Option Text) → stamp_after stamped count o ≡ stamp_from stamped count (fields_after o)
stamp-is true count o = given-next o _ _ (λ t. given-same (decimal_in 0 4294967294 (first_field t)) _ _ (λ x. ends-is (after_field t) x))
stamp-is false count o = ends-is o count

-- ---- both readings

one-by-one : (stamped : Bool) (count : ℕ) (t : Text) → occurrence_on stamped count t ≡ occurrence_from stamped count (fields_of t)
unfolding occurrence_on event_occurrence_on occurrence_from tail_on
one-by-one stamped count t = rw (fields-first t) (
    given-same (decimal_in 0 15 (first_field t)) _ _ (λ comp. given-next (after_field t) _ _ (λ u.
    given-same (hex_in 2 2 (first_field u)) _ _ (λ select. given-next (after_field u) _ _ (λ v.
    given-same (hex_in 2 2 (first_field v)) _ _ (λ umask. given-next (after_field v) _ _ (λ w.
    given-same (mode_of (first_field w)) _ _ (λ kernel. given-next (after_field w) _ _ (λ x.
    given-given (decimal_in 1 255 (first_field x)) _ _ ∙
    given-same (decimal_in 1 255 (first_field x)) _ _ (λ amount. given-given (after_field x) _ _ ∙ given-next (after_field x) _ _ (λ y.
    given-given (hex_in 1 16 (first_field y)) _ _ ∙
    given-same (hex_in 1 16 (first_field y)) _ _ (λ pc. given-given (stamp_after stamped count (after_field y)) _ _ ∙
    ap (λ o. given o (λ stamp. Some (record { comp = comp; select = select; umask = umask; kernel = kernel; amount = amount; pc = pc; stamp = stamp }))) (stamp-is stamped count (after_field y))))))))))))))

more-than-seven : (n : ℕ) → (suc (suc (suc (suc (suc (suc (suc (suc n))))))) == 7) ≡ false
more-than-seven n = grind (arith, nat_tests)

more-than-six : (n : ℕ) → (suc (suc (suc (suc (suc (suc (suc (suc n))))))) == 6) ≡ false
more-than-six n = grind (arith, nat_tests)

few-fields : (stamped : Bool) (n : ℕ) → n < 6 → (n == (6 + flag_bit stamped)) ≡ false
few-fields stamped n h = ne_eqb n (6 + flag_bit stamped) (λ e. omega arith)

six-none : {Y : Type 0} (a b c d e f : Text) (k : ℕ → ℕ → ℕ → Bool → ℕ → ℕ → Option Y) → ((u v w : ℕ) (x : Bool) (y z : ℕ) → k u v w x y z ≡ None)
    → given (decimal_in 0 15 a) (λ u. given (hex_in 2 2 b) (λ v. given (hex_in 2 2 c) (λ w. given (mode_of d) (λ x. given (decimal_in 1 255 e) (λ y. given (hex_in 1 16 f) (λ z. k u v w x y z)))))) ≡ None
six-none a b c d e f k h =
    given-none (decimal_in 0 15 a) _ (λ u. given-none (hex_in 2 2 b) _ (λ v. given-none (hex_in 2 2 c) _ (λ w. given-none (mode_of d) _ (λ x. given-none (decimal_in 1 255 e) _ (λ y. given-none (hex_in 1 16 f) _ (λ z. h u v w x y z))))))

all-of : (stamped : Bool) (count : ℕ) (fields : List Text) → occurrence_from stamped count fields ≡ (if has_fields stamped fields then occ_of stamped count fields else None)
unfolding occurrence_from occ_of
all-of stamped count [] = rw (few-fields stamped 0 (omega arith)) refl
all-of stamped count (a ∷ []) = rw (few-fields stamped 1 (omega arith)) (given-none (decimal_in 0 15 a) _ (λ _. refl))
all-of stamped count (a ∷ b ∷ []) = rw (few-fields stamped 2 (omega arith)) (given-none (decimal_in 0 15 a) _ (λ _. given-none (hex_in 2 2 b) _ (λ _. refl)))
all-of stamped count (a ∷ b ∷ c ∷ []) = rw (few-fields stamped 3 (omega arith)) (given-none (decimal_in 0 15 a) _ (λ _. given-none (hex_in 2 2 b) _ (λ _. given-none (hex_in 2 2 c) _ (λ _. refl))))
all-of stamped count (a ∷ b ∷ c ∷ d ∷ []) = rw (few-fields stamped 4 (omega arith)) (
    given-none (decimal_in 0 15 a) _ (λ _. given-none (hex_in 2 2 b) _ (λ _. given-none (hex_in 2 2 c) _ (λ _. given-none (mode_of d) _ (λ _. refl)))))
all-of stamped count (a ∷ b ∷ c ∷ d ∷ e ∷ []) = rw (few-fields stamped 5 (omega arith)) (
    given-none (decimal_in 0 15 a) _ (λ _. given-none (hex_in 2 2 b) _ (λ _. given-none (hex_in 2 2 c) _ (λ _. given-none (mode_of d) _ (λ _. given-none (decimal_in 1 255 e) _ (λ _. refl))))))
all-of true count (a ∷ b ∷ c ∷ d ∷ e ∷ f ∷ []) = six-none a b c d e f _ (λ _ _ _ _ _ _. refl)
all-of false count (a ∷ b ∷ c ∷ d ∷ e ∷ f ∷ []) = refl
all-of true count (a ∷ b ∷ c ∷ d ∷ e ∷ f ∷ g ∷ []) =
    given-same (decimal_in 0 15 a) _ _ (λ comp. given-same (hex_in 2 2 b) _ _ (λ select. given-same (hex_in 2 2 c) _ _ (λ umask. given-same (mode_of d) _ _ (λ kernel. given-same (decimal_in 1 255 e) _ _ (λ amount. given-same (hex_in 1 16 f) _ _ (λ pc.
    ap (λ o. given o (λ stamp. Some (record { comp = comp; select = select; umask = umask; kernel = kernel; amount = amount; pc = pc; stamp = stamp }))) (given-itself (decimal_in 0 4294967294 g))))))))
all-of false count (a ∷ b ∷ c ∷ d ∷ e ∷ f ∷ g ∷ []) = six-none a b c d e f _ (λ _ _ _ _ _ _. refl)
all-of true count (a ∷ b ∷ c ∷ d ∷ e ∷ f ∷ g ∷ h ∷ rest) = rw (more-than-seven (length rest)) (six-none a b c d e f _ (λ _ _ _ _ _ _. stamped-none (decimal_in 0 4294967294 g) _))
all-of false count (a ∷ b ∷ c ∷ d ∷ e ∷ f ∷ g ∷ h ∷ rest) = rw (more-than-six (length rest)) (six-none a b c d e f _ (λ _ _ _ _ _ _. refl))

pub occurrence-read : (stamped : Bool) (count : ℕ) (t : Text) → occurrence_on stamped count t ≡ (if has_fields stamped (fields_of t) then occ_of stamped count (fields_of t) else None)
occurrence-read stamped count t = one-by-one stamped count t ∙ all-of stamped count (fields_of t)
