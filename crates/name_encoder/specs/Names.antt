-- What an event's text names, or why it names nothing.
use Rattle.std.specs.Prelude.{◌&&◌, ◌||◌, ◌==◌, ◌<◌, ◌^◌, ◌+◌, length, ℕ, Bool, true, false, not, List, [], ◌∷◌, ◌++◌, drop, map, Option, Some, None}
use Rattle.std.specs.Prelude.{Result, Ok, Err, if◌then◌else◌, nat_eq, nat_lt, codes, bytes_eq, slice_get, is_none, option_map, unwrap_or, find}
use Rattle.std.specs.Int.RustNames.{bit_and, bit_or}
use Rattle.std.specs.List.{list_any, position_from, starts_with}
use Rattle.std.specs.Option.{option_map_or, option_or}
use Rattle.std.specs.Str.{str_eq_ignore_ascii_case, str_to_ascii_lowercase}
use Rattle.event_tables.specs.Tables.{ComponentText, CounterText, EventText, MaskText}
use Rattle.table_rows.specs.Texts.{Text, decimal_in, hex_in}
use Rattle.name_encoder.specs.Flags.{bits_of}
use Rattle.event_tables.specs.declared.component.FixedMods.{FixedMods}
use Rattle.papi_base.specs.declared.native.Mods.{Mods}
use Rattle.papi_base.specs.declared.native.Native.{Native}
use Rattle.name_encoder.specs.declared.fault.NameFault.{NameFault}
use Rattle.name_encoder.specs.declared.fault.NameFault.TheVariants as name_fault
use Rattle.papi_base.specs.declared.code.Code.{Code}
use Rattle.papi_base.specs.declared.code.Code.TheVariants as code
use Rattle.name_encoder.specs.Split.{Attribute, Split, attribute_of, split}

-- ---- which event

-- an event of a table, with its places
pub record Found : Type 0 where
  pub comp : ℕ
  pub row : ℕ
  pub component : ComponentText
  pub event : EventText

-- the name is that of the prefix, without regard to ASCII case; without a prefix each name is
abbrev pub agrees : Option Text → Text → Bool
agrees None name = true
agrees (Some prefix) name = str_eq_ignore_ascii_case name prefix

-- the first event of this name in the events from a row on
unfoldable pub event_from : ℕ → ComponentText → Text → ℕ → List EventText → Option Found
event_from comp component name row [] = None
event_from comp component name row (e ∷ rest) =
    if str_eq_ignore_ascii_case e.name name then Some (record { comp = comp; row = row; component = component; event = e })
    else event_from comp component name (row + 1) rest

-- the event in a component, if that agrees with the prefixes
abbrev pub choice : Split → ℕ → ComponentText → Option Found
choice s comp c = if agrees s.comp c.name && agrees s.pmu c.pmu then event_from comp c s.event 0 c.events else None

-- the event in the first component that agrees with the prefixes and has it
unfoldable pub found_from : Split → ℕ → List ComponentText → Option Found
found_from s comp [] = None
found_from s comp (c ∷ rest) =
    option_or (choice s comp c) (found_from s (comp + 1) rest)

-- ---- what an attribute says

-- the modifiers `u`, `k`, `e`, `i` and `c`
pub data Modifier : Type 0 where
  user : Modifier
  kernel : Modifier
  edge : Modifier
  invert : Modifier
  cmask : Modifier

-- what an attribute names: a umask by its row, or a modifier
pub data Meaning : Type 0 where
  mask : ℕ → Meaning
  modifier : Modifier → Meaning

-- a modifier's place among the five
abbrev pub rank : Modifier → ℕ
rank user = 0
rank kernel = 1
rank edge = 2
rank invert = 3
rank cmask = 4

-- two attributes name the same
abbrev pub same_meaning : Meaning → Meaning → Bool
same_meaning (mask a) (mask b) = a == b
same_meaning (modifier m) (modifier n) = rank m == rank n
same_meaning m n = false

-- the modifier of a name in lower case
unfoldable pub modifier_of : Text → Option Modifier
modifier_of name =
    if bytes_eq name (codes "u") then Some user
    else if bytes_eq name (codes "k") then Some kernel
    else if bytes_eq name (codes "e") then Some edge
    else if bytes_eq name (codes "i") then Some invert
    else if bytes_eq name (codes "c") then Some cmask
    else None

-- the row of the umask of this name
abbrev pub mask_row : List MaskText → Text → Option ℕ
mask_row masks name = position_from (λ m. str_eq_ignore_ascii_case m.name name) 0 masks

-- the umask row or the modifier of a name
unfoldable pub meaning_of : List MaskText → Text → Option Meaning
meaning_of masks name =
    option_or (option_map mask (mask_row masks name))
    (option_map modifier (modifier_of (str_to_ascii_lowercase name)))

-- what an attribute says: what it names, and with which value
pub record SaidAttribute : Type 0 where
  pub meaning : Option Meaning
  pub value : Option Text

-- what an attribute of an event says
abbrev pub said_of : List MaskText → Attribute → SaidAttribute
said_of masks a = record { meaning = meaning_of masks a.name; value = a.value }

-- it is of this meaning
abbrev pub means : Meaning → SaidAttribute → Bool
means what s = option_map_or (same_meaning what) s.meaning false

-- a umask is named
abbrev pub is_mask : Meaning → Bool
is_mask (mask row) = true
is_mask (modifier m) = false

-- the attribute names a umask
abbrev pub names_mask : SaidAttribute → Bool
names_mask s = option_map_or is_mask s.meaning false

-- the umask of a row cannot be combined
abbrev pub row_alone : List MaskText → ℕ → Bool
row_alone masks row = option_map_or (λ m. m.alone) (slice_get masks row) false

-- a umask is named that excludes all others
abbrev pub is_alone : List MaskText → Meaning → Bool
is_alone masks (mask row) = row_alone masks row
is_alone masks (modifier m) = false

-- the attribute names a umask that excludes all others
abbrev pub names_alone : List MaskText → SaidAttribute → Bool
names_alone masks s = option_map_or (is_alone masks) s.meaning false

-- the value of a flag: `0`, `n` and `f`, or `1`, `y` and `t`, in either case, and 1 if none is given
unfoldable pub flag_value : Option Text → Option ℕ
flag_value None = Some 1
flag_value (Some v) =
    let low = str_to_ascii_lowercase v in
    if bytes_eq low (codes "0") || (bytes_eq low (codes "n") || bytes_eq low (codes "f")) then Some 0
    else if bytes_eq low (codes "1") || (bytes_eq low (codes "y") || bytes_eq low (codes "t")) then Some 1
    else None

-- the value of the counter mask: decimal up to 255, or `0x` and one or two hexadecimal digits
unfoldable pub cmask_value : Option Text → Option ℕ
cmask_value None = None
cmask_value (Some v) = if starts_with nat_eq v (codes "0x") then hex_in 1 2 (drop 2 v) else decimal_in 0 255 v

-- the value of an attribute that names this, or nothing if it is out of its form
abbrev pub value_of : Meaning → Option Text → Option ℕ
value_of (mask row) None = Some 1
value_of (mask row) (Some v) = None
value_of (modifier cmask) v = cmask_value v
value_of (modifier m) v = flag_value v

-- ---- the faults of attributes

-- it names a umask, as one before it does, and one of those named so far stands alone
abbrev pub clashes : List MaskText → List SaidAttribute → SaidAttribute → Bool
clashes masks above s = names_mask s && (list_any names_mask above && list_any (names_alone masks) (above ++ s ∷ []))

-- why an attribute that names this is refused after those above, if it is
abbrev pub meaning_fault : List MaskText → List SaidAttribute → SaidAttribute → Meaning → Option NameFault
meaning_fault masks above s what =
    if list_any (means what) above then Some name_fault.AttrSet
    else if is_none (value_of what s.value) then Some name_fault.AttrVal
    else if clashes masks above s then Some name_fault.FeatComb
    else None

-- the first check that fails of an attribute in view of those before it
abbrev pub said_fault : List MaskText → List SaidAttribute → SaidAttribute → Option NameFault
said_fault masks above s = option_map_or (meaning_fault masks above s) s.meaning (Some name_fault.Attr)

-- the fault of the first attribute below `above` that has one in view of those before it
unfoldable pub fault_from : List MaskText → List SaidAttribute → List SaidAttribute → Option NameFault
fault_from masks above [] = None
fault_from masks above (s ∷ rest) = option_or (said_fault masks above s) (fault_from masks (above ++ s ∷ []) rest)

-- ---- the native of faultless attributes

-- for each umask from a row on, whether an attribute names it
unfoldable pub named_from : List SaidAttribute → ℕ → List MaskText → List Bool
named_from said row [] = []
named_from said row (m ∷ rest) = list_any (means (mask row)) said ∷ named_from said (row + 1) rest

-- one of the flags is set
abbrev pub has_true : List Bool → Bool
has_true flags = list_any (λ b. b) flags

-- which umasks are the default
abbrev pub choices : List MaskText → List Bool
choices masks = map (λ m. m.preset_choice) masks

-- the umasks that are named, else the default one; None if the event has umasks and there is neither
abbrev pub chosen : List MaskText → List Bool → Option (List Bool)
chosen [] named = Some []
chosen (m ∷ rest) named =
    if has_true named then Some named
    else if has_true (choices (m ∷ rest)) then Some (choices (m ∷ rest))
    else None

-- the values of the chosen umasks, joined by OR
unfoldable pub values_of : List Bool → List MaskText → ℕ
values_of (b ∷ flags) (m ∷ masks) = bit_or (if b then m.bits else 0) (values_of flags masks)
values_of flags masks = 0

-- the value that the attributes give a modifier, and 0 if they do not name it
unfoldable pub set_to : List SaidAttribute → Modifier → ℕ
set_to said m = option_map_or (λ s. unwrap_or (value_of (modifier m) s.value) 0) (find (means (modifier m)) said) 0

-- the modifier has a value above 0
abbrev pub is_set : List SaidAttribute → Modifier → Bool
is_set said m = nat_lt 0 (set_to said m)

-- the modifiers that the attributes ask for: modes, edge, inversion and the counter mask
abbrev pub mods_of : List SaidAttribute → Mods
mods_of said = record { user = is_set said user; kernel = is_set said kernel; edge = is_set said edge; invert = is_set said invert; cmask = set_to said cmask }

-- the value that the attributes give a modifier, if they name it
abbrev pub given_to : List SaidAttribute → Modifier → Option ℕ
given_to said m = option_map (λ s. unwrap_or (value_of (modifier m) s.value) 0) (find (means (modifier m)) said)

-- ---- what the chosen umasks fix: the modhw of libpfm4's tables, whose codes are joined by OR

-- nothing is fixed
abbrev pub none_fixed : FixedMods
none_fixed = record { edge = false; invert = false; cmask = 0 }

-- what is fixed by one and by another
abbrev pub both_fixed : FixedMods → FixedMods → FixedMods
both_fixed a b = record { edge = a.edge || b.edge; invert = a.invert || b.invert; cmask = bit_or a.cmask b.cmask }

-- what a umask fixes, if it is chosen
abbrev pub fixed_if : Bool → Option FixedMods → FixedMods
fixed_if b fixed = if b then unwrap_or fixed none_fixed else none_fixed

-- what is fixed so far, and by each umask that is chosen
unfoldable pub fixed_of : FixedMods → List Bool → List MaskText → FixedMods
fixed_of so_far (b ∷ flags) (m ∷ masks) = fixed_of (both_fixed so_far (fixed_if b m.fixed)) flags masks
fixed_of so_far flags masks = so_far

-- the values that attributes give edge, inversion and the least amount, if they name them
pub record Wanted : Type 0 where
  pub edge : Option ℕ
  pub invert : Option ℕ
  pub cmask : Option ℕ

-- what attributes ask for
abbrev pub wanted : Option ℕ → Option ℕ → Option ℕ → Wanted
wanted e i c = record { edge = e; invert = i; cmask = c }

-- what these attributes ask for
abbrev pub wanted_of : List SaidAttribute → Wanted
wanted_of said = wanted (given_to said edge) (given_to said invert) (given_to said cmask)

-- a value is asked for that is not this one
abbrev pub asks_other : Option ℕ → ℕ → Bool
asks_other o n = option_map_or (λ v. not (v == n)) o false

-- a fixed flag is asked to be off, or another least amount is asked for than the one that is fixed
abbrev pub contradicts : FixedMods → Wanted → Bool
contradicts f w =
    (f.edge && asks_other w.edge 1) || ((f.invert && asks_other w.invert 1) || (nat_lt 0 f.cmask && asks_other w.cmask f.cmask))

-- the modifiers with those that are fixed
abbrev pub with_fixed : FixedMods → Mods → Mods
with_fixed f m = record { user = m.user; kernel = m.kernel; edge = f.edge || m.edge; invert = f.invert || m.invert; cmask = if nat_lt 0 f.cmask then f.cmask else m.cmask }

-- ---- the counters that each chosen umask allows

-- the counters of these that a umask allows, which are all of them if it has none of its own
abbrev pub met : Option ℕ → ℕ → ℕ
met None allowed = allowed
met (Some counters) allowed = bit_and allowed counters

-- the counters of these that each umask allows that is chosen
unfoldable pub common_of : ℕ → List Bool → List MaskText → ℕ
common_of allowed (b ∷ flags) (m ∷ masks) = common_of (if b then met m.counters allowed else allowed) flags masks
common_of allowed flags masks = allowed

-- the programmable counters as bits
abbrev pub programmable : List CounterText → ℕ
programmable counters = bits_of (map (λ k. not k.fixed) counters)

-- the counters that may count with these modifiers
abbrev pub allowed_with : Mods → List CounterText → ℕ → ℕ
allowed_with mods counters allowed = if mods.edge || (mods.invert || nat_lt 0 mods.cmask) then bit_and allowed (programmable counters) else allowed

-- what the umasks of an event fix, if these are chosen
abbrev pub event_fixed : EventText → List Bool → FixedMods
event_fixed e flags = fixed_of none_fixed flags e.masks

-- the counters of an event that each of its umasks allows, if these are chosen
abbrev pub event_allowed : EventText → List Bool → ℕ
event_allowed e flags = common_of e.allowed flags e.masks

-- the native of an event with these umasks and modifiers, and with the modifiers that the umasks fix
abbrev pub native_of : Found → List Bool → Mods → Native
native_of f flags mods =
    let own : Mods = with_fixed (event_fixed f.event flags) mods in
    record {
      comp = f.comp;
      event = f.row;
      select = f.event.select;
      masks = bits_of flags;
      umask = values_of flags f.event.masks;
      mods = own;
      allowed = allowed_with own f.component.counters (event_allowed f.event flags);
    }

-- why the umasks do not go with what is asked for, or with each other: a modifier that they fix is asked for with another value, or no counter of the event is allowed by all of
-- them
abbrev pub umasks_fault : Found → Wanted → List Bool → Option NameFault
umasks_fault f w flags =
    if contradicts (event_fixed f.event flags) w then Some name_fault.AttrSet
    else if event_allowed f.event flags == 0 then Some name_fault.FeatComb
    else None

-- the native, or this fault
abbrev pub native_unless : Found → Mods → List Bool → Option NameFault → Result Native NameFault
native_unless f mods flags (Some fault) = Err fault
native_unless f mods flags None = Ok (native_of f flags mods)

-- the native; without a umask if one is needed it is UMASK
abbrev pub native_chosen : Found → Wanted → Mods → Option (List Bool) → Result Native NameFault
native_chosen f w mods None = Err name_fault.Umask
native_chosen f w mods (Some flags) = native_unless f mods flags (umasks_fault f w flags)

-- the native, or the first fault
abbrev pub native_or : Found → Wanted → Mods → Option NameFault → Option (List Bool) → Result Native NameFault
native_or f w mods (Some fault) flags = Err fault
native_or f w mods None flags = native_chosen f w mods flags

-- what an event with these attributes names
abbrev pub named_event : Found → List SaidAttribute → Result Native NameFault
named_event f said = native_or f (wanted_of said) (mods_of said) (fault_from f.event.masks [] said) (chosen f.event.masks (named_from said 0 f.event.masks))

-- what each attribute of an event says
abbrev pub saids_of : List MaskText → List Text → List SaidAttribute
saids_of masks attributes = map (λ a. said_of masks (attribute_of a)) attributes

-- what the text names, if its event was found or not
abbrev pub named_found : Split → Option Found → Result Native NameFault
named_found s None = Err name_fault.NotFound
named_found s (Some f) = named_event f (saids_of f.event.masks s.attributes)

-- what a text names in these tables
unfoldable pub names : List ComponentText → Text → Result Native NameFault
names tables text = named_found (split text) (found_from (split text) 0 tables)

-- ---- what a fault is called, and which code it has

-- libpfm4's word for a fault
abbrev pub word_of : NameFault → Text
word_of name_fault.NotFound = codes "NOTFOUND"
word_of name_fault.Umask = codes "UMASK"
word_of name_fault.FeatComb = codes "FEATCOMB"
word_of name_fault.Attr = codes "ATTR"
word_of name_fault.AttrVal = codes "ATTR_VAL"
word_of name_fault.AttrSet = codes "ATTR_SET"

-- PAPI's code for a fault: PAPI_add_named_event(3)
abbrev pub fault_code : NameFault → Code
fault_code name_fault.NotFound = code.Enoevnt
fault_code name_fault.FeatComb = code.Ecombo
fault_code f = code.Eattr

-- ---- what fits a shape

-- the native's component is one of the shape's, and it is allowed only counters of it
pub record FitsShape (shape : List (List ℕ)) (n : Native) : Type 0 where
  pub has_component : n.comp < length shape
  pub has_counters : n.allowed < 2 ^ length (unwrap_or (slice_get shape n.comp) [])
