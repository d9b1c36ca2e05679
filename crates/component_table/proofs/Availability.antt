-- Exactly those presets are available whose texts name native events of one component.
use Rattle.component_table.proofs.Words.{◌≡◌, ◌∙◌, ℕ, zero, suc, Bool, true, false, List, [], ◌∷◌, Option, Some, None, Result, Ok, Err, map}
use Rattle.component_table.proofs.Words.{slice_get, option_map, unwrap_or, is_some, refl, sym, ap, ap₂, ComponentText, NameFault, names, Native}
use Rattle.component_table.proofs.Words.{entry, DefView, Entry, Text, are_together, book_of, derived_by, derived_from, derived_if, is_available}
use Rattle.component_table.proofs.Words.{natives_named, rule_of, with_first, Available, ExactlyAvailable, named}
use Rattle.preset_csv.specs.declared.entry.Entry.TheVariants as row
use Rattle.component_table.proofs.Deriving.{all-together, together-all}
use Rattle.component_table.proofs.Naming.{named_end}

-- ---- texts that name natives

names_front : (tables : List ComponentText) (text : Text) (texts : List Text) → natives_named tables (text ∷ texts) ≡ with_first (names tables text) (natives_named tables texts)
unfolding natives_named
names_front tables text texts = refl

each_named : (tables : List ComponentText) (texts : List Text) (natives : List Native) → natives_named tables texts ≡ Some natives → map (names tables) texts ≡ map named natives
each_named tables [] natives e = let none : [] ≡ natives = cc (named_end tables, e) in ap (map named) none
each_named tables (text ∷ texts) natives e = go (names tables text) (natives_named tables texts) refl refl (each_named tables texts) (sym (names_front tables text texts) ∙ e)
  where
    go : (first : Result Native NameFault) (rest : Option (List Native)) → names tables text ≡ first → natives_named tables texts ≡ rest
        → ((ns : List Native) → natives_named tables texts ≡ Some ns → map (names tables) texts ≡ map named ns) → with_first first rest ≡ Some natives
        → names tables text ∷ map (names tables) texts ≡ map named natives
    go (Ok n) (Some ns) f r later h = let whole : n ∷ ns ≡ natives = cc h in ap₂ (λ (a : Result Native NameFault) b. a ∷ b) f (later ns r) ∙ ap (map named) whole
    go (Ok n) None f r later h = cc h
    go (Err fault) rest f r later h = cc h

all_named : (tables : List ComponentText) (texts : List Text) (natives : List Native) → map (names tables) texts ≡ map named natives → natives_named tables texts ≡ Some natives
all_named tables [] [] e = named_end tables
all_named tables [] (n ∷ natives) e = cc e
all_named tables (text ∷ texts) [] e = cc e
all_named tables (text ∷ texts) (n ∷ natives) e =
    let first : names tables text ≡ Ok n = cc e in
    let rest : map (names tables) texts ≡ map named natives = cc e in
    names_front tables text texts ∙ ap₂ with_first first (all_named tables texts natives rest)

-- ---- a row of the book

get_map : (tables : List ComponentText) (rows : List Entry) (r : ℕ) → slice_get (book_of tables rows) r ≡ option_map (derived_from tables) (slice_get rows r)
get_map tables [] r = refl
get_map tables (e ∷ rows) zero = refl
get_map tables (e ∷ rows) (suc r) = get_map tables rows r

entry_is : (tables : List ComponentText) (rows : List Entry) (r : ℕ) (e : Option Entry) → slice_get rows r ≡ e → entry (book_of tables rows) r ≡ unwrap_or (option_map (derived_from tables) e) None
entry_is tables rows r e is = ap (λ p. unwrap_or p None) (get_map tables rows r ∙ ap (option_map (derived_from tables)) is)

from_test : (tables : List ComponentText) (rows : List Entry) (r : ℕ) (d : DefView) (natives : List Native) (b : Bool) → slice_get rows r ≡ Some (row.Def d)
    → natives_named tables d.natives ≡ Some natives → are_together natives ≡ b
    → is_some (derived_if b natives (rule_of d.kind d.formula)) ≡ true → Available tables rows r
from_test tables rows r d natives true here is together h =
    let one = together-all natives together in
    record { def = d; natives = natives; component = one.0; here = here; texts_name = each_named tables d.natives natives is; together = one.1 }
from_test tables rows r d natives false here is together h = cc h

from_natives : (tables : List ComponentText) (rows : List Entry) (r : ℕ) (d : DefView) (natives : Option (List Native)) → slice_get rows r ≡ Some (row.Def d) → natives_named tables d.natives ≡ natives
    → is_some (derived_by natives (rule_of d.kind d.formula)) ≡ true → Available tables rows r
from_natives tables rows r d None here is h = cc h
from_natives tables rows r d (Some natives) here is h = from_test tables rows r d natives (are_together natives) here is refl h

from_entry : (tables : List ComponentText) (rows : List Entry) (r : ℕ) (e : Option Entry) → slice_get rows r ≡ e
    → is_some (unwrap_or (option_map (derived_from tables) e) None) ≡ true → Available tables rows r
from_entry tables rows r (Some (row.Def d)) here h = from_natives tables rows r d (natives_named tables d.natives) here refl h
from_entry tables rows r e here h = cc h

available_is : (tables : List ComponentText) (rows : List Entry) (r : ℕ) → Available tables rows r → is_available (book_of tables rows) r ≡ true
available_is tables rows r a =
    ap is_some (entry_is tables rows r (Some (row.Def a.def)) a.here
    ∙ ap (λ natives. derived_by natives (rule_of a.def.kind a.def.formula)) (all_named tables a.def.natives a.natives a.texts_name)
    ∙ ap (λ b. derived_if b a.natives (rule_of a.def.kind a.def.formula)) (all-together a.natives a.component a.together))

pub exactly_available : ExactlyAvailable
exactly_available tables rows r =
    (λ h. from_entry tables rows r (slice_get rows r) refl (sym (ap is_some (entry_is tables rows r (slice_get rows r) refl)) ∙ h), available_is tables rows r)
