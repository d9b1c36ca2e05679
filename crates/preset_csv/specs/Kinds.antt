-- The derived types that a preset file states, and the kinds of presets that are computed: papi_events.csv.
use Rattle.std.specs.Prelude.{Bool, true, false, Option, Some, None, if◌then◌else◌, codes}
use Rattle.std.specs.Str.{bytes_eq}
use Rattle.table_rows.specs.Texts.{Text}
use Rattle.preset_csv.specs.declared.kind.Kind.{Kind}
use Rattle.preset_csv.specs.declared.kind.Kind.TheVariants as kind
use Rattle.preset_csv.specs.declared.kind.DerivedType.{DerivedType}
use Rattle.preset_csv.specs.declared.kind.DerivedType.TheVariants as derived

-- the derived type of this name, compared exactly
unfoldable pub type_of : Text → Option DerivedType
type_of t =
    if bytes_eq t (codes "NOT_DERIVED") then Some derived.NotDerived
    else if bytes_eq t (codes "DERIVED_ADD") then Some derived.Add
    else if bytes_eq t (codes "DERIVED_SUB") then Some derived.Sub
    else if bytes_eq t (codes "DERIVED_POSTFIX") then Some derived.Postfix
    else if bytes_eq t (codes "DERIVED_INFIX") then Some derived.Infix
    else if bytes_eq t (codes "DERIVED_PS") then Some derived.Ps
    else if bytes_eq t (codes "DERIVED_ADD_PS") then Some derived.AddPs
    else if bytes_eq t (codes "DERIVED_CMPD") then Some derived.Cmpd
    else None

-- the name of the type of a computed preset
abbrev pub kind_text : Kind → Text
kind_text kind.NotDerived = codes "NOT_DERIVED"
kind_text kind.Add = codes "DERIVED_ADD"
kind_text kind.Sub = codes "DERIVED_SUB"
kind_text kind.Postfix = codes "DERIVED_POSTFIX"

-- a row of this type has a formula before its natives
abbrev pub has_formula : Option DerivedType → Bool
has_formula (Some derived.Postfix) = true
has_formula (Some derived.Infix) = true
has_formula t = false
