-- The streams of a run: those that are named, opened in their order, and empty ones for the other threads.
use Rattle.std.specs.Prelude.{◌≡◌, ◌-◌, ◌<◌, ℕ, List, [], ◌∷◌, ◌++◌, length, map, replicate, count_by, is_some, Some, Result, Ok}
use Rattle.std.specs.List.{Any}
use Rattle.papi_base.specs.Outside.{Tape}
use Rattle.papi_base.specs.Streams.{Coming, Dry}
use Rattle.papi_base.specs.declared.limits.TheConstants.{THREADS}
use Rattle.stream_reader.specs.Occurs.{occurs_of}
use Rattle.stream_reader.specs.Reader.{ReaderView, comes, coming, faults_of, tape_of}
use Rattle.papi_tools.specs.Openings.{CanGive, Openings, and_then, tapes_under}
use Rattle.papi_tools.specs.declared.refusal.Refusal.{Refusal}

-- the stream of a tape
abbrev pub stream_of : Tape → Coming
stream_of tape = occurs_of tape.ending tape.bytes

-- a stream with nothing in it
abbrev pub empty_stream : Coming
empty_stream = record { rest = []; mark = Dry }

-- the streams of all 64 threads: those of the tapes, and empty ones for the other threads
unfoldable pub streams_of : List Tape → List Coming
streams_of tapes = map stream_of tapes ++ replicate (THREADS - length tapes) empty_stream

-- the streams under these names, whose openings are the next ones
abbrev pub streams_under : Openings → List (List ℕ) → Result (List Coming) Refusal
streams_under openings names = and_then (tapes_under openings names) (λ tapes. Ok (streams_of tapes))

-- the readers tell the streams
pub record TellStreams (readers : List ReaderView) (streams : List Coming) : Type 0 where
  pub each : map (λ r. coming r) readers ≡ map (λ s. Some s) streams

-- how many of the readers have a source
abbrev pub sources_in : List ReaderView → ℕ
sources_in readers = count_by (λ (r : ReaderView). is_some r.source) readers

-- with each tape its source can have, the reader gives the stream of the whole tape
abbrev pub IsUnread : ReaderView → Type 0
IsUnread reader = (tape : Tape) → comes reader tape.ending tape.bytes ≡ stream_of tape

-- these tapes can be those of the readers' sources, one of each
abbrev pub CanEachGive : List ReaderView → List Tape → Type 0
CanEachGive [] [] = Unit {0}
CanEachGive [] (t ∷ ts) = ⊥
CanEachGive (r ∷ rs) [] = ⊥
CanEachGive (r ∷ rs) (t ∷ ts) = CanGive (tape_of r) t × CanEachGive rs ts

-- the source of some reader has failed
abbrev pub SomeFailed : List ReaderView → Type 0
SomeFailed readers = Any (λ r. 0 < faults_of r) readers
