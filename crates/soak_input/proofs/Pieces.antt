-- Texts that grow at their end, piece by piece.
use Rattle.soak_input.proofs.Words.{◌≡◌, ◌∙◌, ◌<◌, ◌≤◌, ◌+◌, ◌∷◌, ◌++◌, ℕ, ℤ, suc, List, [], length, take, sym, ap, arith, add-zero, append_assoc}
use Rattle.soak_input.proofs.Words.{get_or, append-nil, length-take-le, take_all, take_more, signed_decimal, codes, decimal, both, Text, sum_of}
use Rattle.soak_input.proofs.Words.{summary_text, thread_line, thread_lines, ThreadTotal}

-- three pieces, from nothing on
pub three : (start a b after u v w : Text) → start ≡ [] → a ≡ start ++ u → b ≡ a ++ v → after ≡ b ++ w → after ≡ u ++ (v ++ w)
three start a b after u v w none p q r = both start a after u (v ++ w) p (both a b after v w q r) ∙ ap (λ (t : Text). t ++ (u ++ (v ++ w))) none

thread_lines-push : (thread : ℕ) (xs : List ThreadTotal) (x : ThreadTotal) → thread_lines thread (xs ++ x ∷ []) ≡ thread_lines thread xs ++ thread_line (thread + length xs) x
unfolding thread_lines
thread_lines-push thread [] x = append-nil (thread_line thread x) ∙ ap (λ k. thread_line k x) (sym (add-zero thread))
thread_lines-push thread (y ∷ xs) x =
    let k : thread + 1 + length xs ≡ thread + suc (length xs) = omega arith in
    ap (λ (t : Text). thread_line thread y ++ t) (thread_lines-push (thread + 1) xs x ∙ ap (λ i. thread_lines (thread + 1) xs ++ thread_line i x) k)
    ∙ sym (append_assoc (thread_line thread y) (thread_lines (thread + 1) xs) (thread_line (thread + suc (length xs)) x))

-- the line of one thread more
pub thread_more : (xs : List ThreadTotal) (i : ℕ) (x : ThreadTotal) (now after : Text) → i < length xs → x ≡ get_or xs i x →
    now ≡ thread_lines 0 (take i xs) → after ≡ now ++ thread_line i x → after ≡ thread_lines 0 (take (i + 1) xs)
thread_more xs i x now after small is so_far more =
    let k : i ≡ 0 + length (take i xs) = omega (arith, length-take-le i xs (omega arith)) in
    more ∙ ap (λ (t : Text). t ++ thread_line i x) so_far ∙ ap (λ j. thread_lines 0 (take i xs) ++ thread_line j x) k
    ∙ sym (thread_lines-push 0 (take i xs) x) ∙ ap (λ ys. thread_lines 0 ys) (sym (take_more xs i x small ∙ ap (λ y. take i xs ++ y ∷ []) (sym is)))

-- the whole summary
pub summed : (totals : List ThreadTotal) (i replies : ℕ) (now after : Text) (sum : ℤ) → length totals ≤ i → now ≡ thread_lines 0 (take i totals) → sum ≡ sum_of totals →
    after ≡ now ++ (codes "replies " ++ (decimal replies ++ (codes "\nsum " ++ (signed_decimal sum ++ codes "\n")))) → after ≡ summary_text totals replies
unfolding summary_text
summed totals i replies now after sum all so_far is more =
    more ∙ ap (λ (t : Text). t ++ (codes "replies " ++ (decimal replies ++ (codes "\nsum " ++ (signed_decimal sum ++ codes "\n"))))) (so_far ∙ ap (λ xs. thread_lines 0 xs) (take_all i totals all))
    ∙ ap (λ s. thread_lines 0 totals ++ (codes "replies " ++ (decimal replies ++ (codes "\nsum " ++ (signed_decimal s ++ codes "\n"))))) is
