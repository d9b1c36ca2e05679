-- What the adapters over readers and writers of std keep: the reader or writer, and a count of faults.
use Rattle.std.specs.Prelude.{ℕ}
use Rattle.papi_base.specs.declared.adapter.Counted.{Counted}

-- how often a read or a write has failed
abbrev pub faults_of : {T : Type 0} → Counted T → ℕ
faults_of s = s.faults

-- the reader or writer itself
abbrev pub inner_of : {T : Type 0} → Counted T → T
inner_of s = s.inner
