-- What is kept of the events of some rows, one row after another.
use Rattle.tool_output.proofs.Words.{◌≡◌, ◌∙◌, ◌+◌, ◌++◌, ◌∷◌, ℕ, Bool, false, List, [], filter, map, refl, sym, ap, append_assoc, arith, append-nil}
use Rattle.tool_output.proofs.Words.{flat_map-append, filter-append, map-range_with_len_more, flat_map, range_with_len, range_more}

module _ {X : Type 0} (p : X → Bool) where
  kept_both : (start so_far after xs ys : List X) → so_far ≡ start ++ filter p xs → after ≡ so_far ++ filter p ys → after ≡ start ++ filter p (xs ++ ys)
  kept_both start so_far after xs ys a b =
      b ∙ ap (λ zs. zs ++ filter p ys) a ∙ append_assoc start (filter p xs) (filter p ys) ∙ ap (λ zs. start ++ zs) (sym (filter-append p xs ys))

  -- one row more, of which each has some events
  pub kept_more : (f : ℕ → List X) (n : ℕ) (start so_far after : List X) → so_far ≡ start ++ filter p (flat_map f (range_with_len 0 n)) → after ≡ so_far ++ filter p (f n)
      → after ≡ start ++ filter p (flat_map f (range_with_len 0 (n + 1)))
  kept_more f n start so_far after a b =
      kept_both start so_far after (flat_map f (range_with_len 0 n)) (f n) a b
      ∙ ap (λ xs. start ++ filter p xs)
      (sym (ap (flat_map f) (range_more n) ∙ flat_map-append f (range_with_len 0 n) (n ∷ []) ∙ ap (λ xs. flat_map f (range_with_len 0 n) ++ xs) (append-nil (f n))))

  -- one row more, of which each has one event
  pub kept_one : (f : ℕ → X) (n : ℕ) (start so_far after : List X) → so_far ≡ start ++ filter p (map f (range_with_len 0 n)) → after ≡ so_far ++ filter p (f n ∷ [])
      → after ≡ start ++ filter p (map f (range_with_len 0 (n + 1)))
  kept_one f n start so_far after a b =
      kept_both start so_far after (map f (range_with_len 0 n)) (f n ∷ []) a b
      ∙ ap (λ xs. start ++ filter p xs) (sym (map-range_with_len_more f 0 n n (omega arith)))

  -- rows of which no event is kept
  pub none_of_rows : (f : ℕ → List X) → ((k : ℕ) → filter p (f k) ≡ []) → (rows : List ℕ) → filter p (flat_map f rows) ≡ []
  none_of_rows f none [] = refl
  none_of_rows f none (k ∷ rows) = filter-append p (f k) (flat_map f rows) ∙ ap (λ xs. xs ++ filter p (flat_map f rows)) (none k) ∙ none_of_rows f none rows

  pub none_of_each : (f : ℕ → X) → ((k : ℕ) → p (f k) ≡ false) → (rows : List ℕ) → filter p (map f rows) ≡ []
  none_of_each f none [] = refl
  none_of_each f none (k ∷ rows) = rw (none k) (none_of_each f none rows)
