-- What is to come of a stream of occurrences: this project's own text format, docs/FORMATS.md.
use Rattle.std.specs.Prelude.{ℕ, List}
use Rattle.papi_base.specs.declared.occurrence.Occ.{Occ}
use Rattle.papi_base.specs.declared.occurrence.LineCause.{LineCause}

-- how a stream ends: well, by a bad line, or by a read that failed
pub data Mark : Type 0 where
  Dry : Mark
  Bad : ℕ → LineCause → Mark
  Fault : Mark

-- the occurrences to come, and how the stream ends after them
pub record Coming : Type 0 where
  pub rest : List Occ
  pub mark : Mark
