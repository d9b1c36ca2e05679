-- How a tape is read in pieces.
use Rattle.stream_reader.proofs.Words.{◌≡◌, ◌<◌, ◌==◌, ◌∷◌, ◌++◌, ℕ, Bool, true, false, List, [], length, refl, ap, arith, nat_lt, AllByRecursion}
use Rattle.stream_reader.proofs.Words.{slice_split, onto_first, cond, if◌then◌else◌, lt-ltb, Ending, Line, is_last_line, lines_of, tape_lines}
use Rattle.stream_reader.proofs.Words.{LineStart, judged, after, end_mark, joined, occurs_from, occurs_on}
use Rattle.std.proofs.lemmas.List.{length-append}
use Rattle.papi_base.specs.declared.outside.Ending.TheVariants as ending
use Rattle.papi_base.specs.declared.occurrence.LineCause.TheVariants as cause
use Rattle.papi_base.specs.Streams.{Bad}

-- no byte of the text is a newline
abbrev pub OneLine : List ℕ → Type 0
OneLine t = AllByRecursion (λ b. (b == 10) ≡ false) t

abbrev IsNewline : ℕ → Bool
IsNewline b = b == 10

split-line : (x rest : List ℕ) → OneLine x → slice_split IsNewline (x ++ 10 ∷ rest) ≡ x ∷ slice_split IsNewline rest
split-line [] rest h = refl
split-line (b ∷ x) rest h = rw (h.0, split-line x rest h.1) refl

split-end : (x : List ℕ) → OneLine x → slice_split IsNewline x ≡ x ∷ []
split-end [] h = refl
split-end (b ∷ x) h = rw (h.0, split-end x h.1) refl

-- there is always a part
pub record Parts (parts : List (List ℕ)) : Type 0 where
  first : (List ℕ)
  rest : List (List ℕ)
  are : parts ≡ first ∷ rest

parts-of : (x : List ℕ) → Parts (slice_split IsNewline x)
parts-of [] = record { first = []; rest = []; are = refl }
parts-of (b ∷ x) = go (b == 10) (parts-of x)
  where
    go : (e : Bool) → Parts (slice_split IsNewline x) → Parts (cond e ([] ∷ slice_split IsNewline x) (onto_first b (slice_split IsNewline x)))
    go true p = record { first = []; rest = slice_split IsNewline x; are = refl }
    go false p = record { first = b ∷ p.first; rest = p.rest; are = ap (onto_first b) p.are }

-- a whole line and the rest of the tape
pub line-first : (e : Ending) (x rest : List ℕ) → OneLine x → tape_lines e (x ++ 10 ∷ rest) ≡ record { bytes = x; ended = true } ∷ tape_lines e rest
unfolding tape_lines lines_of
line-first e x rest h =
    let p = parts-of rest in
    rw (split-line x rest h, p.are) refl

abbrev pub whole_line : List ℕ → Line
whole_line x = record { bytes = x; ended = true }

abbrev pub last_line : List ℕ → Line
last_line x = record { bytes = x; ended = false }

-- what a tape says is what its first line says, and then what the rest says after it
pub occurs-line : (e : Ending) (start : LineStart) (x rest : List ℕ) → OneLine x
    → occurs_on e start (x ++ 10 ∷ rest) ≡ joined start.number (judged start (whole_line x)) (occurs_on e (after start (whole_line x) (judged start (whole_line x))) rest)
unfolding occurs_from
occurs-line e start x rest h = rw (line-first e x rest h) refl

-- the bytes after the last newline
pub occurs-end : (e : Ending) (start : LineStart) (x : List ℕ) → OneLine x → is_last_line e x ≡ false → occurs_on e start x ≡ record { rest = []; mark = end_mark e }
unfolding tape_lines lines_of occurs_from
occurs-end e start x h none = rw (split-end x h, none) refl

pub occurs-last : (e : Ending) (start : LineStart) (x : List ℕ) → OneLine x → is_last_line e x ≡ true
    → occurs_on e start x ≡ joined start.number (judged start (last_line x)) (record { rest = []; mark = end_mark e })
unfolding tape_lines lines_of occurs_from
occurs-last e start x h some = rw (split-end x h, some) refl

-- as soon as more than 128 bytes have come with no newline, whatever follows, the line is too long
split-more : (x rest first : List ℕ) (more : List (List ℕ)) → OneLine x → slice_split IsNewline rest ≡ first ∷ more → slice_split IsNewline (x ++ rest) ≡ (x ++ first) ∷ more
split-more [] rest first more h e = e
split-more (b ∷ x) rest first more h e = rw (h.0, split-more x rest first more h.1 e) refl

long-last : (e : Ending) (y : List ℕ) → nat_lt 128 (length y) ≡ true → is_last_line e y ≡ true
long-last ending.End [] l = cc l
long-last ending.End (b ∷ y) l = refl
long-last ending.Fault y l = l

long-lines : (e : Ending) (start : LineStart) (y : List ℕ) (more : List (List ℕ)) → nat_lt 128 (length y) ≡ true → occurs_from e start (lines_of e (y ∷ more)) ≡ record { rest = []; mark = Bad start.number cause.Long }
unfolding occurs_from lines_of judged
long-lines e start y [] l = rw (long-last e y l, l) refl
long-lines e start y (z ∷ more) l = rw l refl

pub occurs-long : (e : Ending) (start : LineStart) (x rest : List ℕ) → OneLine x → 128 < length x → occurs_on e start (x ++ rest) ≡ record { rest = []; mark = Bad start.number cause.Long }
unfolding tape_lines
occurs-long e start x rest h long =
    let p = parts-of rest in
    let l : nat_lt 128 (length (x ++ p.first)) ≡ true = lt-ltb 128 _ (rw (length-append x p.first) (omega (arith, long))) in
    rw (split-more x rest p.first p.rest h p.are) (long-lines e start (x ++ p.first) p.rest l)

-- no newline: at most the last line
pub no-line : (e : Ending) (x : List ℕ) → OneLine x → tape_lines e x ≡ (if is_last_line e x then last_line x ∷ [] else [])
unfolding tape_lines lines_of
no-line e x h = rw (split-end x h) refl
