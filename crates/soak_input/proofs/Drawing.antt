-- What is drawn, and what a source that draws it has left.
use Rattle.soak_input.proofs.Words.{◌≡◌, ◌∙◌, ◌<◌, ◌≤◌, ◌+◌, ◌-◌, ◌*◌, ◌/◌, ◌%◌, ◌∷◌, ◌++◌, ℕ, zero, suc, false, [], Ok, length, take, drop, sym, ap}
use Rattle.soak_input.proofs.Words.{ap₂, arith, append_assoc, length-append, mod-add-mod, take-append-add, take-append_seam, drop-drop, drop_all}
use Rattle.soak_input.proofs.Words.{length-take-le, take-append-drop, take-append-le, digit_glyph, Gives, both, next, fifth, occurrence_after}
use Rattle.soak_input.proofs.Words.{occurrences_after, left_text, well_ended, Text, line_text, lines_text, six_digits, two_digits, Occurrence}

-- ---- the generator

-- the step in arithmetic that wraps
pub stepped : (number x : ℕ) → x ≡ number → (number * 6364136223846793005 % 18446744073709551616 + 1442695040888963407) % 18446744073709551616 ≡ next x
unfolding next
stepped number x e = mod-add-mod (number * 6364136223846793005) 18446744073709551616 1442695040888963407 ∙ ap (λ n. (n * 6364136223846793005 + 1442695040888963407) % 18446744073709551616) (sym e)

-- ---- digits

-- the last two digits are those of the last byte
low_byte : (n : ℕ) → two_digits (n % 256) ≡ two_digits n
low_byte n =
    let high : n % 256 / 16 % 16 ≡ n / 16 % 16 = omega arith in
    let low : n % 256 % 16 ≡ n % 16 = omega arith in
    ap₂ (λ h l. digit_glyph false h ∷ digit_glyph false l ∷ []) high low

-- six digits, two at a time
pub six_in_pairs : (start first second third : Text) (n : ℕ) → first ≡ start ++ two_digits (n / 65536 % 256) → second ≡ first ++ two_digits (n / 256 % 256)
    → third ≡ second ++ two_digits (n % 256) → third ≡ start ++ six_digits n
six_in_pairs start first second third n a b c =
    both start first third (two_digits (n / 65536)) (two_digits (n / 256) ++ two_digits n)
    (a ∙ ap (λ (t : Text). start ++ t) (low_byte (n / 65536)))
    (both first second third (two_digits (n / 256)) (two_digits n) (b ∙ ap (λ (t : Text). first ++ t) (low_byte (n / 256))) (c ∙ ap (λ (t : Text). second ++ t) (low_byte n)))

-- ---- a source

-- the next line is drawn if the last one was given
pub line_drawn : (line line' : Text) (given left number number' : ℕ) (o : Occurrence) → length line ≡ given → 0 < left → o ≡ occurrence_after number → number' ≡ fifth number → line' ≡ line_text o →
    left_text line' 0 (left - 1) number' ≡ left_text line given left number
unfolding occurrences_after
line_drawn line line' given zero number number' o whole some is next text = absurd (omega arith)
line_drawn line line' given (suc left) number number' o whole some is next text =
    let one : suc left - 1 ≡ left = omega arith in
    let none : drop given line ≡ [] = drop_all given line (omega (arith, whole)) in
    ap (λ k. line' ++ lines_text (occurrences_after k number')) one
    ∙ ap₂ (λ (t : Text) x. t ++ lines_text (occurrences_after left x)) (text ∙ ap line_text is) next
    ∙ ap (λ (t : Text). t ++ lines_text (occurrences_after (suc left) number)) (sym none)

-- some bytes of a line are given
pub front_given : (line room more : Text) (given n : ℕ) → take n room ≡ take n (drop given line) → drop given line ++ more ≡ take n room ++ (drop (given + n) line ++ more)
front_given line room more given n is =
    let rest = drop given line in
    ap (λ (t : Text). t ++ more) (sym (take-append-drop n rest)) ∙ append_assoc (take n rest) (drop n rest) more
    ∙ ap₂ (λ (front : Text) (end : Text). front ++ (end ++ more)) (sym is) (drop-drop n given line)

-- a buffer is filled further
pub filled_more : (all buf middle room back rest : Text) (filled n : ℕ) → filled ≤ length buf → n ≤ length room → all ≡ take filled buf ++ middle → middle ≡ take n room ++ rest →
    all ≡ take (filled + n) (take filled buf ++ (room ++ back)) ++ rest
filled_more all buf middle room back rest filled n small some so_far more =
    so_far ∙ ap (λ (t : Text). take filled buf ++ t) more ∙ sym (append_assoc (take filled buf) (take n room) rest)
    ∙ ap (λ (t : Text). take filled buf ++ t ++ rest) (sym (take-append-le n room back some))
    ∙ ap (λ (t : Text). t ++ rest) (sym (take-append-add (take filled buf) (room ++ back) n) ∙ ap (λ k. take (k + n) (take filled buf ++ (room ++ back))) (length-take-le filled buf small))

nothing_in : (buf rest : Text) (n : ℕ) → n ≤ length buf → take n buf ++ rest ≡ [] → n ≡ 0
nothing_in buf rest n small e = let long : length (take n buf ++ rest) ≡ 0 = ap length e in omega (arith, length-append (take n buf) rest, length-take-le n buf small, long)

some_of : (all buf rest : Text) (n : ℕ) → all ≡ take n buf ++ rest → (n < length buf → rest ≡ []) → 0 < length all → 0 < length buf → 0 < n
some_of all buf rest zero is end some room = let none : all ≡ [] = is ∙ end room in absurd (let h : length all ≡ 0 = ap length none in omega arith)
some_of all buf rest (suc n) is end some room = omega arith

-- a read that fills the buffer, or gives all
pub filled_gives : (all buf rest : Text) (n : ℕ) → n ≤ length buf → all ≡ take n buf ++ rest → (n < length buf → rest ≡ []) → Gives (well_ended all) (Ok n) buf
filled_gives all buf rest n small is end =
    let long : length all ≡ n + length rest = ap length is ∙ length-append (take n buf) rest ∙ ap (λ k. k + length rest) (length-take-le n buf small) in
    record {
      bytes = (omega (arith, long), sym (ap (take n) is ∙ ap (λ k. take k (take n buf ++ rest)) (sym (length-take-le n buf small)) ∙ take-append_seam (take n buf) rest));
      some = λ some room. some_of all buf rest n is end some room;
      none = λ none. ap Ok (nothing_in buf rest n small (sym is ∙ none));
    }

-- if no line and no occurrence is left, nothing is
pub ended_text : (line : Text) (given left number : ℕ) → given ≡ length line → left ≡ 0 → left_text line given left number ≡ []
unfolding occurrences_after
ended_text line given left number whole none = rw none (ap (λ (t : Text). t ++ []) (drop_all given line (omega (arith, whole))))
