-- The group of some rows and of one more.
use Rattle.std.proofs.Common.{◌≡◌, ◌∙◌, ◌∷◌, ◌++◌, ◌||◌, Bool, true, false, List, [], refl}
use Rattle.preset_csv.proofs.Words.{if◌then◌else◌, cond_both, or_right, Text, or-false, Line, other, cpu, gives, cuts_off, group, has_cpu, is_closed}

abbrev pub is_cpu : Line → Bool
is_cpu (cpu n) = true
is_cpu line = false

pub has_cpu-more : (above : List Line) (line : Line) → has_cpu (above ++ line ∷ []) ≡ (has_cpu above || is_cpu line)
unfolding has_cpu
has_cpu-more [] other = refl
has_cpu-more [] line = refl
has_cpu-more (cpu n ∷ rest) line = refl
has_cpu-more (l ∷ rest) line = has_cpu-more rest line

-- a row of another kind than CPU
cuts-same : (above : List Line) (line : Line) → is_cpu line ≡ false → cuts_off (above ++ line ∷ []) ≡ cuts_off above
unfolding cuts_off has_cpu
cuts-same [] other e = refl
cuts-same [] line e = refl
cuts-same (gives w r ∷ rest) line e = has_cpu-more rest line ∙ rw e (or-false (has_cpu rest))
cuts-same (l ∷ rest) line e = cuts-same rest line e

group-same : (above : List Line) (line : Line) → is_cpu line ≡ false → group (above ++ line ∷ []) ≡ group above
unfolding group cuts_off
group-same [] (cpu n) e = cc e
group-same [] line e = refl
group-same (cpu n ∷ rest) line e = rw (cuts-same rest line e, group-same rest line e) refl
group-same (l ∷ rest) line e = group-same rest line e

-- a CPU row: a closed group is cut off
has_preset-cuts : (above : List Line) (n : Text) → is_closed above ≡ true → cuts_off (above ++ cpu n ∷ []) ≡ true
unfolding is_closed cuts_off has_cpu
has_preset-cuts [] n e = cc e
has_preset-cuts (gives w r ∷ rest) n e = has_cpu-more rest (cpu n) ∙ or_right (has_cpu rest) true refl
has_preset-cuts (l ∷ rest) n e = has_preset-cuts rest n e

cuts-open : (above : List Line) (n : Text) → is_closed above ≡ false → cuts_off (above ++ cpu n ∷ []) ≡ cuts_off above
unfolding is_closed cuts_off has_cpu
cuts-open [] n e = refl
cuts-open (gives w r ∷ rest) n e = go (has_cpu rest) e (has_cpu-more rest (cpu n) ∙ or_right (has_cpu rest) true refl)
  where
    go : (b : Bool) → (if b then is_closed rest else true) ≡ false → has_cpu (rest ++ cpu n ∷ []) ≡ true → has_cpu (rest ++ cpu n ∷ []) ≡ b
    go true q t = t
    go false q t = cc q
cuts-open (l ∷ rest) n e = cuts-open rest n e

group-open : (above : List Line) (n : Text) → is_closed above ≡ false → group (above ++ cpu n ∷ []) ≡ group above ++ n ∷ []
unfolding group cuts_off is_closed
group-open [] n e = refl
group-open (other ∷ rest) n e = group-open rest n e
group-open (gives w r ∷ rest) n e = go (has_cpu rest) e (λ q. group-open rest n q)
  where
    go : (b : Bool) → (if b then is_closed rest else true) ≡ false → (is_closed rest ≡ false → group (rest ++ cpu n ∷ []) ≡ group rest ++ n ∷ []) → group (rest ++ cpu n ∷ []) ≡ group rest ++ n ∷ []
    go true q more = more q
    go false q more = cc q
group-open (cpu m ∷ rest) n e = go (cuts_off rest) (cuts-open rest n e) (group-open rest n e)
  where
    go : (b : Bool) → cuts_off (rest ++ cpu n ∷ []) ≡ b → group (rest ++ cpu n ∷ []) ≡ group rest ++ n ∷ []
        → (if cuts_off (rest ++ cpu n ∷ []) then group (rest ++ cpu n ∷ []) else m ∷ group (rest ++ cpu n ∷ [])) ≡ (if b then group rest else m ∷ group rest) ++ n ∷ []
    go true c g = rw (c, g) refl
    go false c g = rw (c, g) refl

-- with a row in it that gives an entry, and no CPU row after it
group-closed : (above : List Line) (n : Text) → is_closed above ≡ true → group (above ++ cpu n ∷ []) ≡ n ∷ []
unfolding group cuts_off is_closed has_cpu
group-closed [] n e = cc e
group-closed (other ∷ rest) n e = group-closed rest n e
group-closed (cpu m ∷ rest) n e = rw (has_preset-cuts rest n e) (group-closed rest n e)
group-closed (gives w r ∷ rest) n e = go (has_cpu rest) refl e (λ q. group-closed rest n q)
  where
    none : (xs : List Line) → has_cpu xs ≡ false → group (xs ++ cpu n ∷ []) ≡ n ∷ []
    none [] q = refl
    none (cpu m ∷ xs) q = cc q
    none (l ∷ xs) q = none xs q

    go : (b : Bool) → has_cpu rest ≡ b → (if b then is_closed rest else true) ≡ true → (is_closed rest ≡ true → group (rest ++ cpu n ∷ []) ≡ n ∷ []) → group (rest ++ cpu n ∷ []) ≡ n ∷ []
    go true h q more = more q
    go false h q more = none rest h

-- the group with one row more
abbrev pub names_more : List Line → Line → List Text
names_more above (cpu n) = if is_closed above then n ∷ [] else group above ++ n ∷ []
names_more above line = group above

abbrev pub closed_more : List Line → Line → Bool
closed_more above other = is_closed above
closed_more above (gives w r) = true
closed_more above (cpu n) = false

pub names-more : (above : List Line) (line : Line) → group (above ++ line ∷ []) ≡ names_more above line
names-more above other = group-same above other refl
names-more above (gives w r) = group-same above (gives w r) refl
names-more above (cpu n) = cond_both (is_closed above) (n ∷ []) (group above ++ n ∷ []) (λ (g : List Text). group (above ++ cpu n ∷ []) ≡ g) (λ e. group-closed above n e) (λ e. group-open above n e)

pub closed-more : (above : List Line) (line : Line) → is_closed (above ++ line ∷ []) ≡ closed_more above line
unfolding is_closed has_cpu
closed-more [] other = refl
closed-more [] line = refl
closed-more (gives v s ∷ rest) other = rw (has_cpu-more rest other, or-false (has_cpu rest), closed-more rest other) refl
closed-more (gives v s ∷ rest) (cpu n) = rw (has_cpu-more rest (cpu n), or_right (has_cpu rest) true refl, closed-more rest (cpu n)) refl
closed-more (gives v s ∷ rest) (gives w r) = rw (has_cpu-more rest (gives w r), or-false (has_cpu rest), closed-more rest (gives w r)) (cond_both (has_cpu rest) true true (λ b. b ≡ true) (λ e. refl) (λ e. refl))
closed-more (l ∷ rest) other = closed-more rest other
closed-more (l ∷ rest) line = closed-more rest line
