-- What one row of a unit file says, by itself. The file format is this project's own.
use Rattle.std.specs.Prelude.{◌&&◌, ◌||◌, ◌==◌, ℕ, Bool, true, false, not, List, length, Option, Some, None, unwrap_or, if◌then◌else◌, nat_le, nat_lt, codes}
use Rattle.std.specs.List.{filter, list_all, slice_split}
use Rattle.std.specs.Option.{option_map_or}
use Rattle.std.specs.Str.{bytes_eq}
use Rattle.papi_base.specs.declared.limits.TheConstants.{LEAST_WIDTH, MOST_WIDTH}
use Rattle.table_rows.specs.Texts.{Text, decimal_in, hex_in, is_decimal, is_empty, is_name, is_printable, is_skipped, text_at}
use Rattle.event_tables.specs.Tables.{MaskText}
use Rattle.event_tables.specs.declared.limits.TheConstants.{LONGEST_DESCRIPTION}
use Rattle.event_tables.specs.declared.row.Row.{Row}
use Rattle.event_tables.specs.declared.row.Row.TheVariants as row
use Rattle.event_tables.specs.declared.row.Flags.{Flags}
use Rattle.event_tables.specs.declared.component.FixedMods.{FixedMods}

-- a row by its kind: a counter out of range has no width, an event names its counters, and a row that has none of the forms is `bad`
pub data Line : Type 0 where
  skipped : Line
  bad : Line
  component : Text → Text → Line
  counter : Text → Option ℕ → Bool → Line
  event : Text → ℕ → List Text → Text → Line
  umask : MaskText → Line
  umask_counters : List Text → Line
  umask_modifiers : FixedMods → Line

-- the parts between spaces that are not empty
unfoldable pub words_of : Text → List Text
words_of t = filter (λ w. not (is_empty w)) (slice_split (λ b. b == 32) t)

-- one or more names
abbrev pub are_names : List Text → Bool
are_names words = not (is_empty words) && list_all is_name words

-- 0 to LONGEST_DESCRIPTION characters from a space to `~`
abbrev pub is_description : Text → Bool
is_description t = is_printable t && nat_le (length t) LONGEST_DESCRIPTION

-- the flags of a umask: whether it is the default, and whether it excludes all others
abbrev pub flags : Bool → Bool → Flags
flags preset_choice alone = record { preset_choice = preset_choice; alone = alone }

-- `-`, or `d` and `n`, each at most once
unfoldable pub flags_of : Text → Option Flags
flags_of t =
    if bytes_eq t (codes "-") then Some (flags false false)
    else if bytes_eq t (codes "d") then Some (flags true false)
    else if bytes_eq t (codes "n") then Some (flags false true)
    else if bytes_eq t (codes "dn") || bytes_eq t (codes "nd") then Some (flags true true)
    else None

-- a COMPONENT row with these fields
abbrev pub component_line : Text → Text → Line
component_line name pmu = if is_name name && is_name pmu then component name pmu else bad

-- a COUNTER row with these fields
abbrev pub counter_line : Text → Text → Text → Line
counter_line name width kind =
    if is_name name && is_decimal width && (bytes_eq kind (codes "P") || bytes_eq kind (codes "F"))
    then counter name (decimal_in LEAST_WIDTH MOST_WIDTH width) (bytes_eq kind (codes "F")) else bad

-- an EVENT row with these fields
abbrev pub event_line : Text → Text → Text → Text → Line
event_line name select counters text =
    option_map_or (λ n. if is_name name && are_names (words_of counters) && is_description text then event name n (words_of counters) text else bad) (hex_in 1 2 select) bad

-- a umask with this name, these bits and flags
abbrev pub mask_of : Text → ℕ → Flags → Text → MaskText
mask_of name bits f text = record { name = name; bits = bits; preset_choice = f.preset_choice; alone = f.alone; text = text; counters = None; fixed = None }

-- a UMASK row with these fields
abbrev pub umask_line : Text → Text → Text → Text → Line
umask_line name bits letters text =
    option_map_or (λ n. option_map_or (λ f. if is_name name && is_description text then umask (mask_of name n f text) else bad) (flags_of letters) bad) (hex_in 1 2 bits) bad

-- a UMASK_COUNTERS row with this field
abbrev pub umask_counters_line : Text → Line
umask_counters_line counters = if are_names (words_of counters) then umask_counters (words_of counters) else bad

-- modifiers that a umask fixes
abbrev pub fixed_mods : Bool → Bool → ℕ → FixedMods
fixed_mods edge invert cmask = record { edge = edge; invert = invert; cmask = cmask }

-- `-`, or `e` and `i`, each at most once, and a least amount
unfoldable pub fixed_mods_of : Text → ℕ → Option FixedMods
fixed_mods_of t cmask =
    if bytes_eq t (codes "-") then Some (fixed_mods false false cmask)
    else if bytes_eq t (codes "e") then Some (fixed_mods true false cmask)
    else if bytes_eq t (codes "i") then Some (fixed_mods false true cmask)
    else if bytes_eq t (codes "ei") || bytes_eq t (codes "ie") then Some (fixed_mods true true cmask)
    else None

-- one of them is fixed
abbrev pub fixes_one : FixedMods → Bool
fixes_one f = f.edge || (f.invert || nat_lt 0 f.cmask)

-- a UMASK_MODIFIERS row with these fields
abbrev pub umask_modifiers_line : Text → Text → Line
umask_modifiers_line letters amount =
    option_map_or (λ n. option_map_or (λ f. if fixes_one f then umask_modifiers f else bad) (fixed_mods_of letters n) bad) (decimal_in 0 255 amount) bad

-- what a row with these fields says
unfoldable pub line_of : List Text → Line
line_of fields =
    let first = text_at fields 0 in
    let n = length fields in
    if is_skipped first then skipped
    else if bytes_eq first (codes "COMPONENT") && (n == 3) then component_line (text_at fields 1) (text_at fields 2)
    else if bytes_eq first (codes "COUNTER") && (n == 4) then counter_line (text_at fields 1) (text_at fields 2) (text_at fields 3)
    else if bytes_eq first (codes "EVENT") && (n == 5) then event_line (text_at fields 1) (text_at fields 2) (text_at fields 3) (text_at fields 4)
    else if bytes_eq first (codes "UMASK") && (n == 5) then umask_line (text_at fields 1) (text_at fields 2) (text_at fields 3) (text_at fields 4)
    else if bytes_eq first (codes "UMASK_COUNTERS") && (n == 2) then umask_counters_line (text_at fields 1)
    else if bytes_eq first (codes "UMASK_MODIFIERS") && (n == 3) then umask_modifiers_line (text_at fields 1) (text_at fields 2)
    else bad

-- what a row that was read says
abbrev pub row_line : Row → Line
row_line row.Skipped = skipped
row_line row.Bad = bad
row_line (row.Component name pmu) = component name.now pmu.now
row_line (row.Counter name width fixed) = counter name.now width fixed
row_line (row.Event name select counters text) = event name.now select (words_of counters.now) text.now
row_line (row.Umask name bits f text) = umask (mask_of name.now bits f text.now)
row_line (row.UmaskCounters counters) = umask_counters (words_of counters.now)
row_line (row.UmaskModifiers fixed) = umask_modifiers fixed

-- what a row says that has one of the forms or none
abbrev pub line_or_bad : Option Row → Line
line_or_bad o = row_line (unwrap_or o row.Bad)
