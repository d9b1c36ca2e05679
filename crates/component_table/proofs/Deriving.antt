-- What computed presets derive keeps what derived events keep, and fits the unit.
use Rattle.component_table.proofs.Words.{◌≡◌, ◌∙◌, ◌<◌, ℕ, zero, suc, Bool, true, false, List, [], ◌∷◌, ◌++◌, Option, Some, None, IfSome, All, length}
use Rattle.component_table.proofs.Words.{get_or, refl, sym, subst, ap, arith, ForSome, eq-eqb, eqb-true, false_from_ne_true, AllPass-from_list_all}
use Rattle.component_table.proofs.Words.{list_all-from_AllPass, All-append, BookFits, Fits, Widths, ComponentText, FitsShape, Native, Rule}
use Rattle.component_table.proofs.Words.{FormulaView, Book, DerivedView, IsDerived, TakesCounts, DefView, FitsKind, IsDef, Kind, Text, are_together}
use Rattle.component_table.proofs.Words.{derived_by, derived_if, derived_of, natives_named, rule_of}
use Rattle.std.specs.Prelude.{◌==◌}
use Rattle.postfix_rules.specs.declared.rule.Rule.TheVariants as rule
use Rattle.preset_csv.specs.declared.kind.Kind.TheVariants as kind
use Rattle.component_table.proofs.Naming.{natives-count}

-- natives that are together are of one component
pub together-all : (natives : List Native) → are_together natives ≡ true → (comp : ℕ) × All (λ n. n.comp ≡ comp) natives
together-all [] e = (0, λ k d small. absurd (omega arith))
together-all (first ∷ others) e = (first.comp, each)
  where
    each : (k : ℕ) (d : Native) → k < length (first ∷ others) → (get_or (first ∷ others) k d).comp ≡ first.comp
    each zero d small = refl
    each (suc k) d small = eqb-true _ _ (AllPass-from_list_all (λ n. n.comp == first.comp) others e k d (omega arith))

-- natives of one component are together
pub all-together : (natives : List Native) (component : ℕ) → All (λ n. n.comp ≡ component) natives → are_together natives ≡ true
all-together [] component each = refl
all-together (first ∷ others) component each =
    list_all-from_AllPass (λ n. n.comp == first.comp) others (λ k d small. eq-eqb _ _ (each (suc k) d (omega arith) ∙ sym (each 0 d (omega arith))))

plain-one : (k : Kind) (f : Option FormulaView) (texts : List Text) → FitsKind k f texts → rule_of k f ≡ rule.Plain → length texts ≡ 1
plain-one kind.NotDerived None texts a e = a
plain-one kind.NotDerived (Some f) texts a e = absurd a
plain-one kind.Postfix None texts a e = absurd a
plain-one kind.Postfix (Some f) texts a e = cc e
plain-one k f texts a e = cc e

rule-counts : (k : Kind) (f : Option FormulaView) (texts : List Text) → FitsKind k f texts → TakesCounts (rule_of k f) (length texts)
rule-counts kind.Postfix None texts a = absurd a
rule-counts kind.Postfix (Some f) texts a = a.0
rule-counts k f texts a = tt

-- the natives of a computed preset, all of one component, make with its rule a derived event
pub derivable : (tables : List ComponentText) (d : DefView) (natives : List Native) → IsDef d → natives_named tables d.natives ≡ Some natives → are_together natives ≡ true
    → IsDerived (record { natives = natives; rule = rule_of d.kind d.formula })
derivable tables d natives def named together =
    let count : length natives ≡ length d.natives = natives-count tables d.natives natives named in
    record {
      some = omega (arith, count, def.some);
      few = omega (arith, count, def.few);
      one_component = together-all natives together;
      plain = λ e. count ∙ plain-one d.kind d.formula d.natives def.agrees e;
      fits = rw count (rule-counts d.kind d.formula d.natives def.agrees);
    }

-- what a computed preset derives, if its natives and its rule make a derived event
pub derives : (tables : List ComponentText) (d : DefView) (natives : List Native) (r : Rule) → natives_named tables d.natives ≡ Some natives
    → r ≡ rule_of d.kind d.formula → IsDerived (record { natives = natives; rule = r })
    → derived_of tables d ≡ Some (record { natives = natives; rule = r })
derives tables d natives r named is made =
    ap (λ o. derived_by o (rule_of d.kind d.formula)) named
    ∙ ap (λ b. derived_if b natives (rule_of d.kind d.formula)) (all-together natives made.one_component.0 made.one_component.1)
    ∙ ap (λ q. derived_if true natives q) (sym is)

-- a computed preset derives nothing if its natives and its rule make no derived event
pub derives-none : (tables : List ComponentText) (d : DefView) (natives : List Native) (r : Rule) → IsDef d → natives_named tables d.natives ≡ Some natives
    → r ≡ rule_of d.kind d.formula → ¬ IsDerived (record { natives = natives; rule = r })
    → derived_of tables d ≡ None
derives-none tables d natives r def named is apart =
    ap (λ o. derived_by o (rule_of d.kind d.formula)) named
    ∙ ap (λ b. derived_if b natives (rule_of d.kind d.formula)) (false_from_ne_true (are_together natives) (λ e. apart (rw is (derivable tables d natives def named e))))

fit_one : (shape : Widths) (n : Native) → FitsShape shape n → All (Fits shape) (n ∷ [])
fit_one shape n fits zero d small = record { has_component = fits.has_component; has_counters = fits.has_counters }
fit_one shape n fits (suc k) d small = absurd (omega arith)

-- one more native that fits
pub fit-more : (shape : Widths) (natives : List Native) (n : Native) → All (Fits shape) natives → FitsShape shape n → All (Fits shape) (natives ++ n ∷ [])
fit-more shape natives n all fits = All-append (Fits shape) natives (n ∷ []) all (fit_one shape n fits)

book_one : (shape : Widths) (place : Option DerivedView) → IfSome place (λ d. All (Fits shape) d.natives) → All (λ p. ForSome p (λ d. All (Fits shape) d.natives)) (place ∷ [])
book_one shape place fits zero d small = go place fits
  where
    go : (p : Option DerivedView) → IfSome p (λ d. All (Fits shape) d.natives) → ForSome p (λ d. All (Fits shape) d.natives)
    go None h x e = cc e
    go (Some derived) h x e = let same : derived ≡ x = cc e in subst (λ (d : DerivedView). All (Fits shape) d.natives) same h
book_one shape place fits (suc k) d small = absurd (omega arith)

-- one more place of a book whose natives fit
pub book-fits-more : (shape : Widths) (book : Book) (place : Option DerivedView) → BookFits shape book → IfSome place (λ d. All (Fits shape) d.natives) → BookFits shape (book ++ place ∷ [])
book-fits-more shape book place all fits = record { each = All-append (λ p. ForSome p (λ d. All (Fits shape) d.natives)) book (place ∷ []) all.each (book_one shape place fits) }
