-- A call that changes nothing.
use Rattle.std.proofs.Common.{◌≡◌, Option, Some, subst, sym}
use Rattle.papi_c.proofs.Words.{LibraryView, Through}

-- the library is put back as it was
pub put_back : (Holds : LibraryView → LibraryView → Type 0) (Shut : Type 0) (before after : Option LibraryView) (at v : LibraryView) → at ≡ v → Some v ≡ before → after ≡ Some v → Holds at at
    → Through before after Holds Shut
put_back Holds Shut before after at v same is back so =
    subst (λ (b : Option LibraryView). Through b after Holds Shut) is
    (subst (λ (a : Option LibraryView). Through (Some v) a Holds Shut) (sym back) (subst (λ (l : LibraryView). Holds l l) same so))
