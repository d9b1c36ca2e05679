-- Natives looked at, by their select codes.
use Rattle.std.specs.Prelude.{ℕ, ◌≡◌, ◌<◌, ◌≤◌, List, slice_get, Some}
use Rattle.papi_base.specs.declared.native.Native.{Native}

-- of the places from `first` on that are below `end` only those from `from` on that are below `to` may have the select code
pub record AreCoded (natives : List Native) (select first end from to : ℕ) : Type 0 where
  pub rises : from ≤ to
  pub lower : first ≤ from
  pub upper : to ≤ end
  pub all : (k : ℕ) (n : Native) → first ≤ k → k < end → slice_get natives k ≡ Some n → n.select ≡ select → (from ≤ k) × (k < to)
