-- The natives mentioned and their codes, as an insertion-ordered set keeps them.
use Rattle.component_table.proofs.Words.{◌≡◌, ◌∙◌, ◌+◌, ℕ, Bool, true, false, cond, eqb, List, [], ◌∷◌, ◌++◌, Option, Some, None, list_any}
use Rattle.component_table.proofs.Words.{position_or_len, ltb, eqb-true, cond_some, position_or_len_push, Native, eq-value, among, joined_by}
use Rattle.component_table.proofs.Words.{same_native, native_code, natives_same, code_in}
use Rattle.std.proofs.Common.{length, refl, sym, ap, arith, option_map, if◌then◌else◌, position, is_some}

-- ---- the derived test for equal native events is the test of all fields

among_same : (natives : List Native) (n : Native) → list_any (eq-value.it n) natives ≡ among n natives
among_same natives n i = list_any (λ m. natives_same n m i) natives

first_same : (natives : List Native) (n : Native) → position_or_len (eq-value.it n) natives ≡ position_or_len (same_native n) natives
first_same natives n i = position_or_len (λ m. natives_same n m i) natives

-- ---- codes and mentions

-- the code of a native event by its rank, if it is mentioned
ranked : (natives : List Native) (n : Native) (rank : Option ℕ) → rank ≡ position (eq-value.it n) natives → is_some rank ≡ list_any (eq-value.it n) natives
    → option_map (λ k. 0x40000000 + k) rank ≡ code_in natives n
ranked natives n None is found = ap (λ b. if b then Some (native_code natives n) else None) (found ∙ among_same natives n)
ranked natives n (Some k) is found =
    ap (λ m. Some (0x40000000 + m)) (sym (cond_some (ltb (position_or_len (eq-value.it n) natives) (length natives)) (position_or_len (eq-value.it n) natives) k (sym is)).1 ∙ first_same natives n)
    ∙ ap (λ b. if b then Some (native_code natives n) else None) (found ∙ among_same natives n)

pub code-at : (keys natives : List Native) (n : Native) (rank : Option ℕ) → keys ≡ natives → rank ≡ position (eq-value.it n) keys → is_some rank ≡ list_any (eq-value.it n) keys
    → option_map (λ k. 0x40000000 + k) rank ≡ code_in natives n
code-at keys natives n rank same is found = ranked keys n rank is found ∙ ap (λ (ns : List Native). code_in ns n) same

-- a mention as the set makes it
pub mentioned-by : (keys natives : List Native) (n : Native) → keys ≡ natives → (if list_any (eq-value.it n) keys then keys else keys ++ n ∷ []) ≡ joined_by natives (n ∷ [])
mentioned-by keys natives n same = ap (λ b. if b then keys else keys ++ n ∷ []) (among_same keys n) ∙ ap (λ (ns : List Native). joined_by ns (n ∷ [])) same

-- a mention leaves the first place
first_kept : (p : Native → Bool) (n : Native) (b : Bool) → p n ≡ true → (keys : List Native) → position_or_len p (if b then keys else keys ++ n ∷ []) ≡ position_or_len p keys
first_kept p n true passes keys = refl
first_kept p n false passes keys = position_or_len_push p keys n ∙ go (eqb (position_or_len p keys) (length keys)) refl
  where
    go : (t : Bool) → eqb (position_or_len p keys) (length keys) ≡ t → cond t (length keys + cond (p n) 0 1) (position_or_len p keys) ≡ position_or_len p keys
    go true e = let at = eqb-true (position_or_len p keys) (length keys) e in rw passes (omega arith)
    go false e = refl

-- the code of a native event that was just mentioned, by its rank
pub code-mentioned : (natives natives' : List Native) (n : Native) (rank : ℕ) → eq-value.it n n ≡ true → natives' ≡ (if list_any (eq-value.it n) natives then natives else natives ++ n ∷ [])
    → rank ≡ position_or_len (eq-value.it n) natives → 0x40000000 + rank ≡ native_code natives' n
code-mentioned natives natives' n rank own grown is =
    ap (λ k. 0x40000000 + k)
    (is ∙ sym (ap (position_or_len (eq-value.it n)) grown ∙ first_kept (eq-value.it n) n (list_any (eq-value.it n) natives) own natives) ∙ first_same natives' n)
