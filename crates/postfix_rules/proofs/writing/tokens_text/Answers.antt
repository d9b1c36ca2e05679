use Rattle.postfix_rules.proofs.Words.{◌≡◌, ◌∙◌, ◌+◌, ◌<◌, ◌≤◌, ◌∷◌, ◌++◌, ℕ, List, [], length, get_or, drop, sym, ap, append_assoc, append-nil}
use Rattle.postfix_rules.proofs.Words.{drop_more, drop_all, string_bytes, Token, formula_text, token_text, Text}
use Rattle.postfix_rules.proofs.writing.tokens_text.Goals as goal

text-more : (xs : List Token) (i : ℕ) (d : Token) → i < length xs → formula_text (drop i xs) ≡ (token_text (get_or xs i d) ++ 124 ∷ []) ++ formula_text (drop (i + 1) xs)
unfolding formula_text
text-more xs i d lt = rw (drop_more xs i d lt) (sym (append_assoc (token_text (get_or xs i d)) (124 ∷ []) (formula_text (drop (i + 1) xs))))

joined : (xs : List Token) (i : ℕ) (d : Token) (old new piece : Text) → i < length xs → old ++ formula_text (drop i xs) ≡ formula_text xs
    → piece ≡ token_text (get_or xs i d) ++ 124 ∷ [] → new ≡ old ++ piece → new ++ formula_text (drop (i + 1) xs) ≡ formula_text xs
joined xs i d old new piece lt before p is =
    let rest = formula_text (drop (i + 1) xs) in
    let more : piece ++ rest ≡ formula_text (drop i xs) = ap (λ (q : Text). q ++ rest) p ∙ sym (text-more xs i d lt) in
    ap (λ (n : Text). n ++ rest) is ∙ append_assoc old piece rest ∙ ap (λ (q : Text). old ++ q) more ∙ before

done : (xs : List Token) (i : ℕ) (text : Text) → length xs ≤ i → text ++ formula_text (drop i xs) ≡ formula_text xs → text ≡ formula_text xs
unfolding formula_text
done xs i text le before = sym (append-nil text) ∙ (rw (drop_all i xs le) at before)

pub loop-token-preserved : goal.loop-token-preserved
loop-token-preserved c =
    let pushed = rw c.as_str.ensures.value at c.in_ok-push_str.ensures.bytes in
    joined c.args.tokens.now c.loop-token.token-index _ (string_bytes c.loop-token.text) (string_bytes c.push_str.new.self) (string_bytes c.in_ok-piece.piece)
    c.loop-token-test.true c.loop-token.invariant c.in_ok-piece.ensures pushed

pub returns : goal.returns
returns c = done c.args.tokens.now c.loop-token.token-index (string_bytes c.loop-token.text) c.loop-token-test.false c.loop-token.invariant
