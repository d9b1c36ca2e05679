-- What an occurrence adds to a native event's count: the event select register of Intel's manual, and the modifiers of libpfm4(3).
use Rattle.std.specs.Prelude.{ℕ, Bool, true, false, ◌||◌, ◌&&◌, ◌==◌, not, nat_le, bit_and, if◌then◌else◌, Option, Some, None}
use Rattle.papi_base.specs.declared.occurrence.Occ.{Occ}
use Rattle.papi_base.specs.declared.native.Native.{Native}
use Rattle.papi_base.specs.declared.bits.Domain.{Domain}

-- the two sets of bits share one
abbrev pub share : ℕ → ℕ → Bool
share bits others = not (bit_and bits others == 0)

-- the two differ
abbrev pub differ : Bool → Bool → Bool
differ true b = not b
differ false b = b

-- the occurrence's mode is in the native's privilege mask, which is the domain if the native has none
abbrev pub in_mode : Native → Domain → Occ → Bool
in_mode n d o = if (n.mods.user || n.mods.kernel) then (if o.kernel then n.mods.kernel else n.mods.user) else (if o.kernel then share d.0 2 else share d.0 1)

-- the occurrence is of the native, in a mode in which that counts
abbrev pub is_of : Native → Domain → Occ → Bool
is_of n d o = (n.comp == o.comp) && (n.select == o.select) && ((n.umask == 0) || share n.umask o.umask) && in_mode n d o

-- the native's condition holds at the occurrence
abbrev pub holds : Native → Domain → Occ → Bool
holds n d o = is_of n d o && ((n.mods.cmask == 0) || differ (nat_le n.mods.cmask o.amount) n.mods.invert)

-- it held at the occurrence before, if there was one
abbrev pub held : Native → Domain → Option Occ → Bool
held n d None = false
held n d (Some before) = holds n d before

-- what the occurrence adds, if `before` came just before it
abbrev pub weight_of : Native → Domain → Option Occ → Occ → ℕ
weight_of n d before o = if holds n d o then (if n.mods.edge then (if held n d before then 0 else 1) else (if (n.mods.cmask == 0) then o.amount else 1)) else 0
