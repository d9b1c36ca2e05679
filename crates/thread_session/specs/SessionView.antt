-- What contracts see of a session.
use Rattle.std.specs.Prelude.{◌≡◌, ◌≤◌, false}
use Rattle.std.specs.Option.{option_map}
use Rattle.papi_base.specs.declared.occurrence.Occ.{Occ}
use Rattle.papi_base.specs.declared.limits.TheConstants.{MOST_OCCURRENCES}
use Rattle.stream_reader.specs.Occurs.{first_start}
use Rattle.stream_reader.specs.Reader.{ReaderView}
use Rattle.thread_core.specs.CoreView.{CoreView}

-- a core, and the reader of its thread's stream
pub record SessionView : Type 0 where
  pub core : CoreView
  pub reader : ReaderView

-- a reader at the beginning of its stream, that was not asked yet
pub record IsFresh (reader : ReaderView) : Type 0 where
  pub unasked : reader.asked ≡ false
  pub first : reader.start ≡ first_start

-- as long as the reader gives occurrences the core has taken these and no others
pub record AreInStep (core : CoreView) (reader : ReaderView) : Type 0 where
  pub few : core.taken ≤ MOST_OCCURRENCES
  pub taken : reader.over ≡ false → core.taken ≡ reader.start.given
  pub last : reader.over ≡ false → option_map (λ (o : Occ). o.stamp) core.last ≡ reader.start.last
