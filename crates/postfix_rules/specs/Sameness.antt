-- Tests for equal native events and events, and lists of native events without repeats.
use Rattle.std.specs.Prelude.{Bool, true, false, ◌&&◌, ◌==◌, not, List, [], ◌∷◌, ◌++◌, if◌then◌else◌}
use Rattle.std.specs.List.{list_any}
use Rattle.papi_base.specs.declared.native.Native.{Native}
use Rattle.papi_base.specs.declared.native.EventRef.{EventRef}
use Rattle.papi_base.specs.declared.native.EventRef.TheVariants as event

-- two truth values are equal
abbrev pub same_bool : Bool → Bool → Bool
same_bool true b = b
same_bool false b = not b

-- two native events are equal: all their fields are
abbrev pub same_native : Native → Native → Bool
same_native m n =
    (m.comp == n.comp) && (m.event == n.event) && (m.select == n.select) && (m.masks == n.masks) && (m.umask == n.umask)
    && same_bool m.mods.user n.mods.user && same_bool m.mods.kernel n.mods.kernel && same_bool m.mods.edge n.mods.edge
    && same_bool m.mods.invert n.mods.invert && (m.mods.cmask == n.mods.cmask) && (m.allowed == n.allowed)

-- two events are equal
abbrev pub same_event : EventRef → EventRef → Bool
same_event (event.Preset i) (event.Preset j) = i == j
same_event (event.Preset i) (event.Native n) = false
same_event (event.Native m) (event.Preset j) = false
same_event (event.Native m) (event.Native n) = same_native m n

-- the native is in the list
abbrev pub among : Native → List Native → Bool
among n ns = list_any (same_native n) ns

-- the further natives at the end of the list, without those that are in it by then
abbrev pub joined_by : List Native → List Native → List Native
joined_by seen [] = seen
joined_by seen (n ∷ more) = joined_by (if among n seen then seen else seen ++ n ∷ []) more
