-- The canonical name of a native, and its code of 64 bits.
use Rattle.std.specs.Prelude.{◌&&◌, ◌||◌, ◌==◌, ◌+◌, ◌*◌, ◌/◌, ◌%◌, ◌^◌, ◌≡◌, ℕ, Bool, not, List, [], ◌∷◌, ◌++◌, Ok}
use Rattle.std.specs.Prelude.{if◌then◌else◌, nat_lt, codes, decimal, slice_get}
use Rattle.std.specs.Option.{option_map_or}
use Rattle.event_tables.specs.Tables.{ComponentText, EventText, MaskText}
use Rattle.table_rows.specs.Texts.{Text}
use Rattle.name_encoder.specs.Flags.{flag_bit}
use Rattle.event_tables.specs.declared.component.FixedMods.{FixedMods}
use Rattle.papi_base.specs.declared.native.Mods.{Mods}
use Rattle.papi_base.specs.declared.native.Native.{Native}
use Rattle.name_encoder.specs.Names.{event_fixed, names}

-- the names of the umasks whose bits are set, each after a colon
unfoldable pub masks_text : ℕ → List MaskText → Text
masks_text bits [] = []
masks_text bits (m ∷ rest) = (if bits % 2 == 1 then 58 ∷ m.name else []) ++ masks_text (bits / 2) rest

-- the text, or an empty one
abbrev pub text_if : Bool → Text → Text
text_if on t = if on then t else []

-- the modifiers that are set, each after a colon, in the order `u`, `k`, `e`, `i`, `c`
unfoldable pub mods_text : Mods → Text
mods_text m = text_if m.user (codes ":u") ++ (text_if m.kernel (codes ":k") ++ (text_if m.edge (codes ":e") ++ (text_if m.invert (codes ":i")
    ++ text_if (nat_lt 0 m.cmask) (codes ":c=" ++ decimal m.cmask))))

-- for each umask, whether its bit is set
unfoldable pub flags_in : ℕ → List MaskText → List Bool
flags_in bits [] = []
flags_in bits (m ∷ rest) = (bits % 2 == 1) ∷ flags_in (bits / 2) rest

-- the modifiers that are not fixed
abbrev pub free_mods : FixedMods → Mods → Mods
free_mods f m = record { user = m.user; kernel = m.kernel; edge = m.edge && not f.edge; invert = m.invert && not f.invert; cmask = if nat_lt 0 f.cmask then 0 else m.cmask }

-- those of a native that its umasks do not fix
abbrev pub own_mods : EventText → Native → Mods
own_mods e n = free_mods (event_fixed e (flags_in n.masks e.masks)) n.mods

-- the canonical name of a native of this event
abbrev pub event_text : Text → EventText → Native → Text
event_text pmu e n = pmu ++ (codes "::" ++ (e.name ++ (masks_text n.masks e.masks ++ mods_text (own_mods e n))))

-- `pmu::EVENT`, the chosen umasks, and the modifiers that are set and that the umasks do not fix
unfoldable pub canonical : List ComponentText → Native → Text
canonical tables n =
    option_map_or (λ c. option_map_or (λ e. event_text c.pmu e n) (slice_get c.events n.event) []) (slice_get tables n.comp) []

-- a canonical name names its native
abbrev pub ReadsBack : List ComponentText → Native → Type 0
ReadsBack tables n = names tables (canonical tables n) ≡ Ok n

-- the layout of the event select register: user and kernel are both set if neither is asked for, bits 20 and 22 always
unfoldable pub code64 : Native → ℕ
code64 n =
    let both = not (n.mods.user || n.mods.kernel) in
    n.select + 2 ^ 8 * n.umask + 2 ^ 16 * flag_bit (n.mods.user || both) + 2 ^ 17 * flag_bit (n.mods.kernel || both)
    + 2 ^ 18 * flag_bit n.mods.edge + 2 ^ 20 + 2 ^ 22 + 2 ^ 23 * flag_bit n.mods.invert + 2 ^ 24 * n.mods.cmask
