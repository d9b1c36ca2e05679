-- The modes in which a native event counts: the user and operating system flags of the event select register of Intel's manual,
-- and the domain of PAPI_set_domain(3). What is added at a place.
use Rattle.std.specs.Prelude.{ℕ, Bool, false, ◌||◌, ◌==◌, not, if◌then◌else◌, Option, Some, None}
use Rattle.papi_base.specs.declared.occurrence.Occ.{Occ}
use Rattle.papi_base.specs.declared.native.Native.{Native}
use Rattle.papi_base.specs.declared.bits.Domain.{Domain}
use Rattle.papi_base.specs.Weight.{share, weight_of}
use Rattle.counter_unit.specs.declared.registers.Register.{Register}
use Rattle.counter_unit.specs.Counting.{After, carries, moved}

-- whether it counts in user mode: by its own modes, or by the domain if it names none
abbrev pub counts_user : Native → Domain → Bool
counts_user n d = if (n.mods.user || n.mods.kernel) then n.mods.user else share d.0 1

-- the same of kernel mode
abbrev pub counts_kernel : Native → Domain → Bool
counts_kernel n d = if (n.mods.user || n.mods.kernel) then n.mods.kernel else share d.0 2

-- what is on a place does not count each amount as it is: it asks for an edge or a least amount
abbrev pub is_modified : Option Register → Bool
is_modified None = false
is_modified (Some r) = r.native.mods.edge || not (r.native.mods.cmask == 0)

-- what an occurrence adds at a place
abbrev pub weight_at : Option Occ → Occ → Option Register → ℕ
weight_at before o None = 0
weight_at before o (Some r) = weight_of r.native r.domain before o

-- a place after this is added
abbrev pub added : ℕ → ℕ → Option Register → After
added width more None = record { place = None; carried = false }
added width more (Some r) = record { place = Some (moved width more r); carried = carries width more r }
