-- What can come of a stream whose source tells nothing beforehand.
use Rattle.std.specs.Prelude.{◌≡◌, IfSome}
use Rattle.papi_base.specs.Outside.{Tape}
use Rattle.papi_base.specs.Streams.{Coming}
use Rattle.stream_reader.specs.Reader.{ReaderView, comes, tape_of}

-- This can come of a reader: it is what the bytes that it holds say, and after them some tape of its source, which is the one that the source tells, if it tells.
pub record CanCome (reader : ReaderView) (c : Coming) : Type 0 where
  pub tape : Tape
  pub told : IfSome (tape_of reader) (λ (t : Tape). t ≡ tape)
  pub says : comes reader tape.ending tape.bytes ≡ c
