-- What contracts see of a computed preset, and what it keeps: papi_events.csv.
use Rattle.std.specs.Prelude.{◌≡◌, ◌≤◌, ◌==◌, ◌||◌, Bool, true, false, not, List, length, Option, Some, None, codes}
use Rattle.std.specs.List.{AllByRecursion, list_all}
use Rattle.std.specs.Str.{str_eq_ignore_ascii_case}
use Rattle.table_rows.specs.Texts.{Text, is_empty, is_printable, trimmed}
use Rattle.postfix_rules.specs.declared.derived.TheConstants.{MOST_NATIVES}
use Rattle.postfix_rules.specs.Faults.{FormulaView, IsFormula}
use Rattle.preset_csv.specs.declared.kind.Kind.{Kind}
use Rattle.preset_csv.specs.declared.kind.Kind.TheVariants as kind

-- a preset that is computed of the counts of its native events by its kind
pub record DefView : Type 0 where
  pub kind : Kind
  pub formula : Option FormulaView
  pub natives : List Text

-- a field that ends the natives of a row: it is empty, or begins a note or a description
abbrev pub ends_natives : Text → Bool
ends_natives t =
    is_empty t || (str_eq_ignore_ascii_case t (codes "NOTE") || (str_eq_ignore_ascii_case t (codes "SDESC") || str_eq_ignore_ascii_case t (codes "LDESC")))

-- a text that stands in a row among the natives: printable, with no comma, with no blank at either end, and none that ends them
pub record IsNativeText (t : Text) : Type 0 where
  pub printable : is_printable t ≡ true
  pub no_comma : list_all (λ b. not (b == 44)) t ≡ true
  pub whole : trimmed t ≡ t
  pub goes_on : ends_natives t ≡ false

-- natives of which an entry may be computed: each can stand in a row, and there are from 1 to MOST_NATIVES
pub record AreNatives (natives : List Text) : Type 0 where
  pub each : AllByRecursion IsNativeText natives
  pub some : 1 ≤ length natives
  pub few : length natives ≤ MOST_NATIVES

-- a formula stands exactly if the kind is `Postfix`, read with this number of natives; what is not derived has one native
abbrev pub FitsKind : Kind → Option FormulaView → List Text → Type 0
FitsKind kind.NotDerived None natives = length natives ≡ 1
FitsKind kind.Postfix None natives = ⊥
FitsKind kind.Postfix (Some f) natives = (f.natives ≡ length natives) × IsFormula f.natives f.tokens
FitsKind k None natives = Unit {0}
FitsKind k (Some f) natives = ⊥

-- from 1 to MOST_NATIVES natives, which agree with the kind and the formula
pub record IsDef (d : DefView) : Type 0 where
  pub each : AllByRecursion IsNativeText d.natives
  pub some : 1 ≤ length d.natives
  pub few : length d.natives ≤ MOST_NATIVES
  pub agrees : FitsKind d.kind d.formula d.natives
