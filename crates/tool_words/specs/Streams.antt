-- The streams that the words of a tool name: `STREAM..`, none or more.
use Rattle.std.specs.Prelude.{List, [], length, Option, Some, None, if◌then◌else◌, nat_le}
use Rattle.clap.specs.Words.{Text}
use Rattle.papi_base.specs.declared.limits.TheConstants.{THREADS}

-- the names of streams, at most one a thread
abbrev pub streams_of : List Text → Option (List Text)
streams_of names = if nat_le (length names) THREADS then Some names else None

-- the streams that are named, or none
abbrev pub streams_asked : Option (List Text) → Option (List Text)
streams_asked None = Some []
streams_asked (Some names) = streams_of names
