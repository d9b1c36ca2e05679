-- The first line of some bytes, and those after it.
use Rattle.std.proofs.Common.{◌≡◌, ◌∙◌, ◌<◌, ◌+◌, ◌-◌, ◌∷◌, ◌++◌, ℕ, zero, suc, Bool, true, false, List, get_or, [], None, Some, length, take, drop, refl, sym, ap, arith}
use Rattle.std.proofs.lemmas.Bool.{and_parts, ne_eqb, not-true}
use Rattle.std.proofs.lemmas.List.Splits.{length-slice_split, slice_split-cons_no}
use Rattle.std.specs.Prelude.{◌==◌, ◌&&◌, not, position}
use Rattle.std.specs.List.{count_by, list_all, onto_first, slice_split}
use Rattle.std.specs.Str.Lines.{lines, lines_of_parts, strip_carriage_return}
use Rattle.table_rows.proofs.Splits.{rest-whole, split-cut, split-none}

abbrev is_newline : ℕ → Bool
is_newline b = b == 10

-- the line before others
before_parts : (line : List ℕ) (bytes : List ℕ) → lines_of_parts (line ∷ slice_split is_newline bytes) ≡ strip_carriage_return line ∷ lines bytes
before_parts line bytes = go (slice_split is_newline bytes) (length-slice_split is_newline bytes)
  where
    go : (parts : List (List ℕ)) → length parts ≡ count_by is_newline bytes + 1 → lines_of_parts (line ∷ parts) ≡ strip_carriage_return line ∷ lines_of_parts parts
    go [] n = absurd (omega (arith, n))
    go (part ∷ parts) n = refl

pub lines-cut : (bytes : List ℕ) (n : ℕ) → position is_newline bytes ≡ Some n → lines bytes ≡ strip_carriage_return (take n bytes) ∷ lines (drop (n + 1) bytes)
lines-cut bytes n h = ap lines_of_parts (split-cut is_newline bytes 0 n h) ∙ before_parts (take n bytes) (drop (n + 1) bytes)

-- the same, the bytes after the line as a slice to the end gives them
pub lines-cut_rest : (bytes : List ℕ) (n : ℕ) → position is_newline bytes ≡ Some n
    → lines bytes ≡ strip_carriage_return (take n bytes) ∷ lines (take (length bytes - (n + 1)) (drop (n + 1) bytes))
lines-cut_rest bytes n h = lines-cut bytes n h ∙ ap (λ (ls : List ℕ). strip_carriage_return (take n bytes) ∷ lines ls) (sym (rest-whole bytes (n + 1)))

pub lines-last : (bytes : List ℕ) → position is_newline bytes ≡ None → 0 < length bytes → lines bytes ≡ bytes ∷ []
lines-last bytes h some = ap lines_of_parts (split-none is_newline bytes h) ∙ rw nonempty refl
  where
    nonempty : (length bytes == 0) ≡ false
    nonempty = ne_eqb (length bytes) 0 (λ (q : length bytes ≡ 0). omega arith)

-- ---- a line that is given

-- a byte that ends no line
abbrev pub is_inner : ℕ → Bool
is_inner b = not (b == 10) && not (b == 13)

split-line : (line rest : List ℕ) → list_all is_inner line ≡ true → slice_split is_newline (line ++ 10 ∷ rest) ≡ line ∷ slice_split is_newline rest
split-line [] rest e = refl
split-line (b ∷ line) rest e =
    let here = and_parts _ _ e in
    slice_split-cons_no is_newline b (line ++ 10 ∷ rest) (not-true (b == 10) (and_parts _ _ here.0).0) ∙ ap (onto_first b) (split-line line rest here.1)

inner-at : (s : List ℕ) (i : ℕ) → list_all is_inner s ≡ true → is_inner (get_or s i 0) ≡ true
inner-at [] i e = refl
inner-at (b ∷ s) zero e = (and_parts _ _ e).0
inner-at (b ∷ s) (suc i) e = inner-at s i (and_parts _ _ e).1

-- it has no carriage return at its end
kept : (line : List ℕ) → list_all is_inner line ≡ true → strip_carriage_return line ≡ line
kept line e =
    let last : (get_or line (length line - 1) 0 == 13) ≡ false = not-true _ (and_parts _ _ (inner-at line (length line - 1) e)).1 in
    rw last refl

pub lines-line : (line rest : List ℕ) → list_all is_inner line ≡ true → lines (line ++ 10 ∷ rest) ≡ line ∷ lines rest
lines-line line rest e = ap lines_of_parts (split-line line rest e) ∙ before_parts line rest ∙ ap (λ (l : List ℕ). l ∷ lines rest) (kept line e)
