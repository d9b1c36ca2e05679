-- What the attributes so far have given, and what one attribute more does to it.
use Rattle.std.specs.Prelude.{◌&&◌, ◌||◌, ℕ, Bool, true, false, List, [], ◌∷◌, length, take, Option, Some, None, Result, Ok, Err}
use Rattle.std.specs.Prelude.{if◌then◌else◌, is_some, nat_lt, slice_get, slice_set, unwrap_or}
use Rattle.std.specs.Option.{option_map_or}
use Rattle.table_rows.specs.Texts.{Text}
use Rattle.event_tables.specs.Tables.{MaskText}
use Rattle.papi_base.specs.declared.native.Mods.{Mods}
use Rattle.papi_base.specs.declared.native.Native.{Native}
use Rattle.name_encoder.specs.declared.fault.NameFault.{NameFault}
use Rattle.name_encoder.specs.declared.fault.NameFault.TheVariants as name_fault
use Rattle.name_encoder.specs.declared.attribute.Attributes.{Attributes}
use Rattle.name_encoder.specs.declared.attribute.Meaning.{Meaning}
use Rattle.name_encoder.specs.declared.attribute.Meaning.TheVariants as means_as
use Rattle.name_encoder.specs.declared.attribute.Modifier.{Modifier}
use Rattle.name_encoder.specs.declared.attribute.Modifier.TheVariants as modifier
use Rattle.name_encoder.specs.Names as Names
use Rattle.name_encoder.specs.Names.{SaidAttribute, row_alone}

-- ---- the code's kinds of meaning, as those of the definitions

-- a modifier of an event's text: `u`, `k`, `e`, `i` or `c`
abbrev pub modifier_text : Modifier → Names.Modifier
modifier_text modifier.User = Names.user
modifier_text modifier.Kernel = Names.kernel
modifier_text modifier.Edge = Names.edge
modifier_text modifier.Invert = Names.invert
modifier_text modifier.Cmask = Names.cmask

-- what an attribute names
abbrev pub meaning_text : Meaning → Names.Meaning
meaning_text (means_as.Mask row) = Names.mask row
meaning_text (means_as.Modifier m) = Names.modifier (modifier_text m)

-- ---- one attribute more

-- what a modifier was given, if it was
abbrev pub value_given : Attributes → Names.Modifier → Option ℕ
value_given g Names.user = g.user
value_given g Names.kernel = g.kernel
value_given g Names.edge = g.edge
value_given g Names.invert = g.invert
value_given g Names.cmask = g.cmask

-- one modifier more has its value
abbrev pub with_value : Attributes → Names.Modifier → ℕ → Attributes
with_value g Names.user v = record g { user = Some v }
with_value g Names.kernel v = record g { kernel = Some v }
with_value g Names.edge v = record g { edge = Some v }
with_value g Names.invert v = record g { invert = Some v }
with_value g Names.cmask v = record g { cmask = Some v }

-- one umask more is named
abbrev pub with_mask : Attributes → ℕ → Bool → Attributes
with_mask g row alone = record g { named = slice_set g.named row true; some = true; alone = g.alone || alone }

-- the umask of this row was named before
abbrev pub is_named : Attributes → ℕ → Bool
is_named g row = unwrap_or (slice_get g.named row) false

-- one attribute more that is the umask of this row
abbrev pub mask_given : List MaskText → Attributes → ℕ → Option Text → Result Attributes NameFault
mask_given masks g row value =
    if is_named g row then Err name_fault.AttrSet
    else if is_some value then Err name_fault.AttrVal
    else if g.some && (g.alone || row_alone masks row) then Err name_fault.FeatComb
    else Ok (with_mask g row (row_alone masks row))

-- one attribute more that is this modifier: each may be given once, with a value that it can have
abbrev pub modifier_given : Attributes → Names.Modifier → Option Text → Result Attributes NameFault
modifier_given g m value =
    if is_some (value_given g m) then Err name_fault.AttrSet
    else option_map_or (λ v. Ok (with_value g m v)) (Names.value_of (Names.modifier m) value) (Err name_fault.AttrVal)

-- one attribute more that names this
abbrev pub meaning_given : List MaskText → Attributes → Option Text → Names.Meaning → Result Attributes NameFault
meaning_given masks g value (Names.mask row) = mask_given masks g row value
meaning_given masks g value (Names.modifier m) = modifier_given g m value

-- one attribute more
abbrev pub said_given : List MaskText → Attributes → SaidAttribute → Result Attributes NameFault
said_given masks g s = option_map_or (meaning_given masks g s.value) s.meaning (Err name_fault.Attr)

-- the attributes after those that gave this
abbrev pub given_next : (Attributes → Result Attributes NameFault) → Result Attributes NameFault → Result Attributes NameFault
given_next go (Ok g) = go g
given_next go (Err f) = Err f

-- all attributes, one by one
unfoldable pub all_given : List MaskText → Attributes → List SaidAttribute → Result Attributes NameFault
all_given masks g [] = Ok g
all_given masks g (s ∷ rest) = given_next (λ n. all_given masks n rest) (said_given masks g s)

-- nothing is given yet
abbrev pub nothing : Attributes
nothing = record {
  named = false ∷ false ∷ false ∷ false ∷ false ∷ false ∷ false ∷ false ∷ false ∷ false ∷ false ∷ false ∷ false ∷ false ∷ false ∷ false ∷ [];
  some = false;
  alone = false;
  user = None;
  kernel = None;
  edge = None;
  invert = None;
  cmask = None;
}

-- ---- what was given in the end

-- a modifier has a value above 0
abbrev pub is_on : Option ℕ → Bool
is_on o = nat_lt 0 (unwrap_or o 0)

-- the modifiers of the native event; a flag that was not given is off, and a counter mask that was not given is 0
abbrev pub mods_given : Attributes → Mods
mods_given g = record { user = is_on g.user; kernel = is_on g.kernel; edge = is_on g.edge; invert = is_on g.invert; cmask = unwrap_or g.cmask 0 }

-- the values that edge, inversion and the least amount were given, if they were
abbrev pub wanted_given : Attributes → Names.Wanted
wanted_given g = Names.wanted g.edge g.invert g.cmask

-- the flags of the umasks that were named
abbrev pub flags_given : List MaskText → Attributes → List Bool
flags_given masks g = take (length masks) g.named

-- the native of the event with what all attributes give
abbrev pub native_given : Names.Found → Attributes → Result Native NameFault
native_given f g = Names.native_chosen f (wanted_given g) (mods_given g) (Names.chosen f.event.masks (flags_given f.event.masks g))

-- that native, or the fault of an attribute
abbrev pub native_next : Names.Found → Result Attributes NameFault → Result Native NameFault
native_next f (Ok g) = native_given f g
native_next f (Err fault) = Err fault
