-- A weight is at most 255.
use Rattle.std.proofs.Common.{ℕ, ◌≤◌, Bool, true, false, arith, Option}
use Rattle.std.specs.Prelude.{if◌then◌else◌, ◌==◌}
use Rattle.papi_base.specs.declared.occurrence.Occ.{Occ}
use Rattle.papi_base.specs.declared.native.Native.{Native}
use Rattle.papi_base.specs.declared.bits.Domain.{Domain}
use Rattle.papi_base.specs.Weight.{weight_of, holds, held}

if_le : (b : Bool) (x y m : ℕ) → x ≤ m → y ≤ m → (if b then x else y) ≤ m
if_le true x y m p q = p
if_le false x y m p q = q

pub weight_of-le : (n : Native) (d : Domain) (before : Option Occ) (o : Occ) → o.amount ≤ 255 → weight_of n d before o ≤ 255
weight_of-le n d before o h =
    if_le (holds n d o) (if n.mods.edge then (if held n d before then 0 else 1) else (if (n.mods.cmask == 0) then o.amount else 1)) 0 255
    (if_le n.mods.edge (if held n d before then 0 else 1) (if (n.mods.cmask == 0) then o.amount else 1) 255 (if_le (held n d before) 0 1 255 (omega arith) (omega arith)) (if_le (n.mods.cmask == 0) o.amount 1 255 h (omega arith)))
    (omega arith)
