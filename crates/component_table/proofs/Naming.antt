-- The native events that texts name, text by text.
use Rattle.component_table.proofs.Words.{◌≡◌, ◌∙◌, ◌<◌, ◌≤◌, ◌+◌, ℕ, List, [], ◌∷◌, ◌++◌, Option, Some, None, Result, Ok, Err, length, drop, get_or}
use Rattle.component_table.proofs.Words.{refl, sym, ap, arith, append_assoc, length-append, append-nil, drop_all, drop_more, ComponentText, NameFault}
use Rattle.component_table.proofs.Words.{names, Native, Text, natives_named, with_first}

-- some natives before those that come, if these are named
abbrev pub after : List Native → Option (List Native) → Option (List Native)
after natives None = None
after natives (Some more) = Some (natives ++ more)

-- what a loop over the texts keeps: the natives of the first n of them
pub record Named (tables : List ComponentText) (texts : List Text) (i : ℕ) (natives : List Native) : Type 0 where
  pub so_far : natives_named tables texts ≡ after natives (natives_named tables (drop i texts))
  pub count : length natives ≡ i

named_here : (tables : List ComponentText) (texts : List Text) (i : ℕ) → i < length texts
    → natives_named tables (drop i texts) ≡ with_first (names tables (get_or texts i [])) (natives_named tables (drop (i + 1) texts))
unfolding natives_named
named_here tables texts i small = rw (drop_more texts i [] small) refl

after_one : (natives : List Native) (n : Native) (r : Option (List Native)) → after natives (with_first (Ok n) r) ≡ after (natives ++ n ∷ []) r
after_one natives n None = refl
after_one natives n (Some more) = ap Some (sym (append_assoc natives (n ∷ []) more))

pub named-more : (tables : List ComponentText) (texts : List Text) (i : ℕ) (natives : List Native) (n : Native) → i < length texts
    → names tables (get_or texts i []) ≡ Ok n → Named tables texts i natives
    → Named tables texts (i + 1) (natives ++ n ∷ [])
named-more tables texts i natives n small is named = record {
  so_far =
      named.so_far
      ∙ ap (after natives) (named_here tables texts i small ∙ ap (λ r. with_first r (natives_named tables (drop (i + 1) texts))) is)
      ∙ after_one natives n (natives_named tables (drop (i + 1) texts));
  count = omega (arith, named.count, length-append natives (n ∷ []));
}

pub named-fault : (tables : List ComponentText) (texts : List Text) (i : ℕ) (natives : List Native) (fault : NameFault) → i < length texts
    → names tables (get_or texts i []) ≡ Err fault → Named tables texts i natives
    → natives_named tables texts ≡ None
named-fault tables texts i natives fault small is named =
    named.so_far ∙ ap (after natives) (named_here tables texts i small ∙ ap (λ r. with_first r (natives_named tables (drop (i + 1) texts))) is)

pub named_end : (tables : List ComponentText) → natives_named tables [] ≡ Some []
unfolding natives_named
named_end tables = refl

pub named-all : (tables : List ComponentText) (texts : List Text) (i : ℕ) (natives : List Native) → length texts ≤ i → Named tables texts i natives → natives_named tables texts ≡ Some natives
named-all tables texts i natives all named =
    named.so_far ∙ ap (after natives) (ap (natives_named tables) (drop_all i texts all) ∙ named_end tables) ∙ ap Some (append-nil natives)

one_more : (tables : List ComponentText) (text : Text) (texts : List Text) (natives : List Native) → ((more : List Native) → natives_named tables texts ≡ Some more → length more ≡ length texts)
    → natives_named tables (text ∷ texts) ≡ Some natives → length natives ≡ length (text ∷ texts)
unfolding natives_named
one_more tables text texts natives earlier is = go (names tables text) (natives_named tables texts) refl is
  where
    go : (r : Result Native NameFault) (rest : Option (List Native)) → natives_named tables texts ≡ rest → with_first r rest ≡ Some natives → length natives ≡ length (text ∷ texts)
    go (Ok n) (Some more) e h =
        let count : length more ≡ length texts = earlier more e in
        let whole : n ∷ more ≡ natives = cc h in
        let long = ap length whole in
        omega (arith, count, long)
    go (Ok n) None e h = cc h
    go (Err fault) rest e h = cc h

-- there are as many natives as texts
pub natives-count : (tables : List ComponentText) (texts : List Text) (natives : List Native) → natives_named tables texts ≡ Some natives → length natives ≡ length texts
natives-count tables [] natives is = let whole : [] ≡ natives = cc (named_end tables, is) in let long = ap length whole in omega (arith, long)
natives-count tables (text ∷ texts) natives is = one_more tables text texts natives (natives-count tables texts) is
