use Rattle.thread_registry.proofs.Words.{◌≡◌, ◌+◌, ◌-◌, ◌<◌, inl, inr, List, ◌++◌, length, get_or, refl, sym, ◌∙◌, subst, ap₂, arith, length-append}
use Rattle.thread_registry.proofs.Words.{cases_lt, get_or_append_left, get_or-append_right, Each}

-- two pairs of lists, one after the other
pub each-append : {X : Type 0} (R : X → X → Type 0) (xs ys xs' ys' : List X) → Each R xs xs' → Each R ys ys' → Each R (xs ++ ys) (xs' ++ ys')
each-append R xs ys xs' ys' f b =
    record {
      len = length-append xs' ys' ∙ (ap₂ ◌+◌ f.len b.len ∙ sym (length-append xs ys));
      at =
          λ k d h.
          let total = length-append xs ys in
          elim (cases_lt k (length xs)) [
            | inl l ↦
                let l' : k < length xs' = omega (arith, f.len) in
                subst (λ v. R v (get_or (xs' ++ ys') k d)) (sym (get_or_append_left xs ys d k l))
                (subst (λ v. R (get_or xs k d) v) (sym (get_or_append_left xs' ys' d k l')) (f.at k d l))
            | inr l ↦
                let below : k - length xs < length ys = omega arith in
                subst (λ v. R v (get_or (xs' ++ ys') k d)) (sym (get_or-append_right xs ys (length xs) k d refl l))
                (subst (λ v. R (get_or ys (k - length xs) d) v) (sym (get_or-append_right xs' ys' (length xs) k d f.len l)) (b.at (k - length xs) d below))
          ];
    }

-- the same at a list that is the two
pub each-joined : {X : Type 0} (R : X → X → Type 0) (ws xs ys xs' ys' : List X) → ws ≡ xs ++ ys → Each R xs xs' → Each R ys ys' → Each R ws (xs' ++ ys')
each-joined R ws xs ys xs' ys' e f b = subst (λ v. Each R v (xs' ++ ys')) (sym e) (each-append R xs ys xs' ys' f b)
