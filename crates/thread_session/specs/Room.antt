-- A run into a place of fixed room: PAPI_overflow(3).
use Rattle.std.specs.Prelude.{ℕ, if◌then◌else◌}
use Rattle.thread_session.specs.declared.filling.Filled.{Filled}

-- how many occurrences the run was of: those asked for, or if it stopped early those that it consumed
abbrev pub asked_for : ℕ → Filled → ℕ
asked_for n f = if f.full then f.ran.consumed else n
