-- The mode of a field.
use Rattle.stream_reader.proofs.Words.{◌≡◌, ◌∙◌, ◌==◌, ◌&&◌, ◌∷◌, ℕ, Bool, true, false, List, [], Option, Some, None, length, get_or, refl, sym, ap}
use Rattle.stream_reader.proofs.Words.{suc, nat_lt, arith, if◌then◌else◌, cond, eqb-true, lt-ltb, nat_tests, mode_of, first_field, is_one_byte}

abbrev pub mode_byte : ℕ → Option Bool
mode_byte b = if b == 117 then Some false else if b == 107 then Some true else None

not-space : (b : ℕ) → (b == 32) ≡ true → mode_byte b ≡ None
not-space b e = rw (eqb-true b 32 e) refl

one : (b : ℕ) → mode_of (b ∷ []) ≡ mode_byte b
unfolding mode_of
one b = go (b == 117) (b == 107)
  where
    go : (x y : Bool) → (if x && true then Some false else if y && true then Some true else None) ≡ (if x then Some false else if y then Some true else None)
    go true y = refl
    go false true = refl
    go false false = refl

two : (b c : ℕ) (u : List ℕ) → mode_of (b ∷ c ∷ u) ≡ None
unfolding mode_of
two b c u = go (b == 117) (b == 107)
  where
    go : (x y : Bool) → (if x && false then Some false else if y && false then Some true else None) ≡ None
    go true true = refl
    go true false = refl
    go false true = refl
    go false false = refl

none : mode_of [] ≡ None
unfolding mode_of
none = refl

above : (n : ℕ) → nat_lt 0 (suc (suc n)) ≡ true
above n = lt-ltb 0 (suc (suc n)) (omega arith)

more : (n : ℕ) → (suc (suc n) == 1) ≡ false
more n = grind (arith, nat_tests)

pub mode-field : (t : List ℕ) → mode_of (first_field t) ≡ (if is_one_byte (length t) (get_or t 1 0) then mode_byte (get_or t 0 0) else None)
unfolding first_field
mode-field [] = none
mode-field (b ∷ []) = go (b == 32) refl
  where
    go : (x : Bool) → (b == 32) ≡ x → mode_of (cond x [] (b ∷ [])) ≡ mode_byte b
    go true e = rw (none, not-space b e) refl
    go false e = one b
mode-field (b ∷ c ∷ u) = go (b == 32) refl ∙ ap (λ x. if x then mode_byte b else None) (sym sizes)
  where
    second : (y : Bool) → mode_of (b ∷ cond y [] (c ∷ first_field u)) ≡ (if y then mode_byte b else None)
    second true = one b
    second false = two b c (first_field u)

    nothing : (y : Bool) → mode_byte b ≡ None → None ≡ (if y then mode_byte b else None)
    nothing true e = cc
    nothing false e = refl

    sizes : is_one_byte (length (b ∷ c ∷ u)) c ≡ (c == 32)
    sizes = rw (above (length u), more (length u)) refl

    go : (x : Bool) → (b == 32) ≡ x → mode_of (cond x [] (b ∷ cond (c == 32) [] (c ∷ first_field u))) ≡ (if c == 32 then mode_byte b else None)
    go true e = none ∙ nothing (c == 32) (not-space b e)
    go false e = second (c == 32)

pub no_mode : (t : List ℕ) → is_one_byte (length t) (get_or t 1 0) ≡ false → mode_of (first_field t) ≡ None
no_mode t h = mode-field t ∙ rw h refl

pub some_mode : (t : List ℕ) → is_one_byte (length t) (get_or t 1 0) ≡ true → mode_of (first_field t) ≡ mode_byte (get_or t 0 0)
some_mode t h = mode-field t ∙ rw h refl

pub mode_one : (f : List ℕ) (k : Bool) → mode_of f ≡ Some k → 1 ≡ length f
mode_one [] k e = cc (none)
mode_one (b ∷ []) k e = refl
mode_one (b ∷ c ∷ u) k e = cc (two b c u)
