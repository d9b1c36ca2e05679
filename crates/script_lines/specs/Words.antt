-- The words of a line of a script, this project's own format: docs/FORMATS.md.
use Rattle.std.specs.Prelude.{ℕ, Bool, true, List, [], ◌∷◌, ◌++◌, map, if◌then◌else◌}
use Rattle.std.specs.Borrow.{Bor}
use Rattle.table_rows.specs.Texts.{is_blank}

-- whether a word ends before these bytes
abbrev pub ends_here : List ℕ → Bool
ends_here [] = true
ends_here (b ∷ rest) = is_blank b

-- a byte more before the first word
abbrev pub in_first : ℕ → List (List ℕ) → List (List ℕ)
in_first b [] = (b ∷ []) ∷ []
in_first b (word ∷ words) = (b ∷ word) ∷ words

-- the longest runs of bytes that are not spaces or tabs, in order
unfoldable pub words_of : List ℕ → List (List ℕ)
words_of [] = []
words_of (b ∷ rest) =
    if is_blank b then words_of rest
    else if ends_here rest then (b ∷ []) ∷ words_of rest
    else in_first b (words_of rest)

-- a word more, unless it is empty
abbrev pub with_word : List (List ℕ) → List ℕ → List (List ℕ)
with_word words [] = words
with_word words (b ∷ rest) = words ++ (b ∷ rest) ∷ []

-- the bytes of each of some slices
abbrev pub texts : List (Bor (List ℕ)) → List (List ℕ)
texts slices = map (λ w. w.now) slices
