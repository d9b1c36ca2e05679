-- Events and their numbers, as more events become known.
use Rattle.std.proofs.Common.{◌≡◌, ℕ, ◌<◌, List, [], ◌∷◌, ◌++◌, length, get_or, sym, ◌∙◌, ap, ap₂, arith, refl, Some, slice_get, subst, zero, suc}
use Rattle.std.proofs.lemmas.List.{map-append, length-append}
use Rattle.std.proofs.lemmas.List.Elements.{All-append}
use Rattle.std.proofs.lemmas.Option.{get_or_from_slice_get, slice_get_within}
use Rattle.std.proofs.Math.ListN.{get_or-append}
use Rattle.papi_base.specs.declared.native.EventRef.{EventRef}
use Rattle.papi_base.specs.declared.native.EventRef.TheVariants as event
use Rattle.reply_lists.specs.Numbered.{AreNumbers, event_at, numbered}

-- the events of numbers stay
pub numbered_stay : (known more : List EventRef) (ns : List ℕ) → AreNumbers known ns → numbered (known ++ more) ns ≡ numbered known ns
numbered_stay known more [] all = refl
numbered_stay known more (n ∷ ns) all =
    ap₂ (λ x xs. x ∷ xs) (get_or-append known more (event.Preset 0) n (all 0 n (omega arith))) (numbered_stay known more ns (λ i d lt. all (suc i) d (omega (arith, lt))))

pub numbers_stay : (known more : List EventRef) (ns : List ℕ) → AreNumbers known ns → AreNumbers (known ++ more) ns
numbers_stay known more ns all = λ i d lt. omega (arith, all i d lt, length-append known more)

-- one number more
pub numbered_more : (known known' more : List EventRef) (ns : List ℕ) (n : ℕ) (e : EventRef) → known' ≡ known ++ more → AreNumbers known ns → slice_get known' n ≡ Some e
    → numbered known' (ns ++ n ∷ []) ≡ numbered known ns ++ e ∷ []
numbered_more known known' more ns n e is all got =
    map-append (event_at known') ns (n ∷ [])
    ∙ ap₂ (λ a b. a ++ b ∷ []) (ap (λ k. numbered k ns) is ∙ numbered_stay known more ns all) (get_or_from_slice_get known' n e (event.Preset 0) got)

pub numbers_more : (known known' more : List EventRef) (ns : List ℕ) (n : ℕ) (e : EventRef) → known' ≡ known ++ more → AreNumbers known ns → slice_get known' n ≡ Some e
    → AreNumbers known' (ns ++ n ∷ [])
numbers_more known known' more ns n e is all got =
    All-append (λ n. n < length known') ns (n ∷ []) (subst (λ k. AreNumbers k ns) (sym is) (numbers_stay known more ns all)) (λ i d lt. one i d lt)
  where
    one : (i : ℕ) (d : ℕ) → i < 1 → get_or (n ∷ []) i d < length known'
    one zero d lt = slice_get_within known' n e got
    one (suc i) d lt = absurd (omega (arith, lt))
