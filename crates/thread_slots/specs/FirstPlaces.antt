-- Where natives are looked up: for each key the first place at which one with this key can stand.
use Rattle.std.specs.Prelude.{ℕ, ◌+◌, ◌%◌, ◌≡◌, ◌≤◌, if◌then◌else◌, List, length, slice_get, slice_index, Some}
use Rattle.papi_base.specs.declared.native.Native.{Native}
use Rattle.thread_slots.specs.declared.places.TheConstants.{KEYS}

-- a number below KEYS by which natives mostly differ: the masks of a native are bits, and powers of two differ modulo 37
abbrev pub key_of : Native → ℕ
key_of n = (n.event % KEYS + n.masks % 37 + (if n.mods.kernel then 37 else 0)) % KEYS

-- no native stands before the place of its key
pub record AreFirst (first : List ℕ) (natives : List Native) : Type 0 where
  pub keys : length first ≡ KEYS
  pub each : (j : ℕ) (n : Native) → slice_get natives j ≡ Some n → slice_index first (key_of n) ≤ j
