-- The words of a line, word by word.
use Rattle.std.proofs.Common.{◌≡◌, ◌∙◌, ◌<◌, ◌≤◌, ◌+◌, ◌-◌, ◌∷◌, ◌++◌, ℕ, List, [], Bool, true, false, length, take, drop, get_or, refl, sym, ap, arith, length-drop, append_assoc}
use Rattle.std.proofs.lemmas.List.{length-take-le, drop_more, take_more, drop_all, take-append-drop, drop-drop, get_or-drop, append-nil}
use Rattle.std.proofs.lemmas.List.Folds.{list_all-append}
use Rattle.std.specs.Prelude.{not, ◌&&◌}
use Rattle.std.specs.List.{list_all}
use Rattle.table_rows.specs.Texts.{is_blank}
use Rattle.script_lines.specs.Words.{ends_here, in_first, with_word, words_of}

abbrev pub is_plain : ℕ → Bool
is_plain b = not (is_blank b)

plain-blank : (b : ℕ) (t : Bool) → (is_plain b && t) ≡ true → (is_blank b ≡ false) × (t ≡ true)
plain-blank b t e = go (is_blank b) t refl e
  where
    go : (q r : Bool) → is_blank b ≡ q → (not q && r) ≡ true → (is_blank b ≡ false) × (r ≡ true)
    go true r h k = cc k
    go false true h k = (h, refl)
    go false false h k = cc k

words-plain : (b : ℕ) (t : List ℕ) → is_blank b ≡ false → ends_here t ≡ false → words_of (b ∷ t) ≡ in_first b (words_of t)
unfolding words_of
words-plain b t p e = rw (p, e) refl

words-last : (b : ℕ) (t : List ℕ) → is_blank b ≡ false → ends_here t ≡ true → words_of (b ∷ t) ≡ (b ∷ []) ∷ words_of t
unfolding words_of
words-last b t p e = rw (p, e) refl

-- a word before bytes at which it ends
pub word-ends : (b : ℕ) (w rest : List ℕ) → list_all is_plain (b ∷ w) ≡ true → ends_here rest ≡ true → words_of ((b ∷ w) ++ rest) ≡ (b ∷ w) ∷ words_of rest
word-ends b [] rest p e = words-last b rest (plain-blank b _ p).0 e
word-ends b (c ∷ w) rest p e =
    let here = plain-blank b _ p in
    let next = plain-blank c _ here.1 in
    words-plain b ((c ∷ w) ++ rest) here.0 next.0 ∙ ap (in_first b) (word-ends c w rest here.1 e)

-- a blank before a text changes none of its words
pub words-blank : (s : List ℕ) (i : ℕ) → i < length s → is_blank (get_or s i 0) ≡ true → words_of (drop i s) ≡ words_of (drop (i + 1) s)
unfolding words_of
words-blank s i lt b = rw (drop_more s i 0 lt, b) refl

pub ends-blank : (s : List ℕ) (i : ℕ) → i < length s → is_blank (get_or s i 0) ≡ true → ends_here (drop i s) ≡ true
ends-blank s i lt b = rw (drop_more s i 0 lt) b

-- the word from `from` to i
pub word-at : (s : List ℕ) (from i : ℕ) → from < i → i ≤ length s → list_all is_plain (take (i - from) (drop from s)) ≡ true → ends_here (drop i s) ≡ true
    → words_of (drop from s) ≡ take (i - from) (drop from s) ∷ words_of (drop i s)
word-at s from i lt le p e = go (take (i - from) (drop from s)) refl p
  where
    cut : take (i - from) (drop from s) ++ drop i s ≡ drop from s
    cut =
        let d : drop (i - from) (drop from s) ≡ drop i s = drop-drop (i - from) from s ∙ ap (λ (k : ℕ). drop k s) (omega arith) in
        ap (λ (t : List ℕ). take (i - from) (drop from s) ++ t) (sym d) ∙ take-append-drop (i - from) (drop from s)

    size : length (take (i - from) (drop from s)) ≡ i - from
    size = length-take-le (i - from) (drop from s) (omega (arith, length-drop from s))

    go : (w : List ℕ) → take (i - from) (drop from s) ≡ w → list_all is_plain w ≡ true → words_of (drop from s) ≡ w ∷ words_of (drop i s)
    go [] h q = let z = ap length h in absurd (omega (arith, size))
    go (b ∷ w) h q = ap words_of (sym cut ∙ ap (λ (t : List ℕ). t ++ drop i s) h) ∙ word-ends b w (drop i s) q e

-- one plain byte more
pub plain-more : (s : List ℕ) (from i : ℕ) → from ≤ i → i < length s → is_blank (get_or s i 0) ≡ false → list_all is_plain (take (i - from) (drop from s)) ≡ true
    → list_all is_plain (take (i + 1 - from) (drop from s)) ≡ true
plain-more s from i le lt b p =
    let n : i + 1 - from ≡ (i - from) + 1 = omega arith in
    let inside : i - from < length (drop from s) = omega (arith, length-drop from s) in
    let byte : get_or (drop from s) (i - from) 0 ≡ get_or s i 0 = get_or-drop from s (i - from) 0 ∙ ap (λ (k : ℕ). get_or s k 0) (omega arith) in
    rw (n, take_more (drop from s) (i - from) 0 inside, list_all-append is_plain (take (i - from) (drop from s)) (get_or (drop from s) (i - from) 0 ∷ []), p, byte, b) refl

-- what a loop over the bytes keeps: the words before `from`, and no blank from there to i
pub record Reads (s : List ℕ) (from i : ℕ) (words : List (List ℕ)) : Type 0 where
  pub placed : from ≤ i
  pub plain : list_all is_plain (take (i - from) (drop from s)) ≡ true
  pub words_are : words_of s ≡ words ++ words_of (drop from s)

pub reads-byte : (s : List ℕ) (from i : ℕ) (words : List (List ℕ)) → i < length s → is_blank (get_or s i 0) ≡ false → Reads s from i words → Reads s from (i + 1) words
reads-byte s from i words lt b r = record { placed = omega (arith, r.placed); plain = plain-more s from i r.placed lt b r.plain; words_are = r.words_are }

nothing-plain : (s : List ℕ) (i : ℕ) → list_all is_plain (take (i - i) (drop i s)) ≡ true
nothing-plain s i = let z : i - i ≡ 0 = omega arith in rw z refl

-- what ends at a blank is one more word, unless it is empty
pub reads-ended : (s : List ℕ) (from i : ℕ) (words : List (List ℕ)) → i < length s → is_blank (get_or s i 0) ≡ true → Reads s from i words
    → Reads s (i + 1) (i + 1) (with_word words (take (i - from) (drop from s)))
reads-ended s from i words lt b r = go (take (i - from) (drop from s)) refl
  where
    size : length (take (i - from) (drop from s)) ≡ i - from
    size = length-take-le (i - from) (drop from s) (omega (arith, length-drop from s))

    go : (w : List ℕ) → take (i - from) (drop from s) ≡ w → Reads s (i + 1) (i + 1) (with_word words w)
    go [] h =
        let z = ap length h in
        let same : from ≡ i = omega (arith, size, z, r.placed) in
        record {
          placed = omega arith;
          plain = nothing-plain s (i + 1);
          words_are = r.words_are ∙ ap (λ (t : List (List ℕ)). words ++ t) (ap (λ (k : ℕ). words_of (drop k s)) same ∙ words-blank s i lt b);
        }
    go (c ∷ w) h =
        let z = ap length h in
        let some : from < i = omega (arith, size, z) in
        record {
          placed = omega arith;
          plain = nothing-plain s (i + 1);
          words_are = r.words_are
              ∙ ap (λ (t : List (List ℕ)). words ++ t) (word-at s from i some (omega arith) r.plain (ends-blank s i lt b) ∙ ap (λ (t : List (List ℕ)). take (i - from) (drop from s) ∷ t) (words-blank s i lt b) ∙ ap (λ (t : List ℕ). t ∷ words_of (drop (i + 1) s)) h)
              ∙ sym (append_assoc words ((c ∷ w) ∷ []) (words_of (drop (i + 1) s)));
        }

pub no-words : words_of [] ≡ []
unfolding words_of
no-words = refl

-- and what ends with the line is the last word, unless it is empty
pub reads-end : (s : List ℕ) (from i : ℕ) (words : List (List ℕ)) → i ≡ length s → Reads s from i words → with_word words (take (length s - from) (drop from s)) ≡ words_of s
reads-end s from i words e r = go (take (length s - from) (drop from s)) refl
  where
    none : drop (length s) s ≡ []
    none = drop_all (length s) s (omega arith)

    size : length (take (length s - from) (drop from s)) ≡ length s - from
    size = length-take-le (length s - from) (drop from s) (omega (arith, length-drop from s))

    go : (w : List ℕ) → take (length s - from) (drop from s) ≡ w → with_word words w ≡ words_of s
    go [] h =
        let z = ap length h in
        let rest : drop from s ≡ [] = drop_all from s (omega (arith, size, z)) in
        sym (r.words_are ∙ ap (λ (t : List (List ℕ)). words ++ t) (ap words_of rest ∙ no-words) ∙ append-nil words)
    go (c ∷ w) h =
        let z = ap length h in
        let p = rw e at r.plain in
        let some : from < length s = omega (arith, size, z) in
        let ends : ends_here (drop (length s) s) ≡ true = rw none refl in
        sym (r.words_are ∙ ap (λ (t : List (List ℕ)). words ++ t) (word-at s from (length s) some (omega arith) p ends ∙ ap (λ (t : List ℕ). take (length s - from) (drop from s) ∷ words_of t) none ∙ ap (λ (t : List (List ℕ)). take (length s - from) (drop from s) ∷ t) no-words ∙ ap (λ (t : List ℕ). t ∷ []) h))
