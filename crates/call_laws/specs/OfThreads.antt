-- What a script of several threads replies and tells, by each thread's own calls: so the laws of one thread hold of a script.
use Rattle.std.specs.Prelude.{ℕ, ◌≡◌, ◌<◌, List, [], Some, slice_get, slice_index_or, take}
use Rattle.std.specs.Option.{option_map}
use Rattle.papi_base.specs.Streams.{Coming, Dry}
use Rattle.papi_base.specs.declared.limits.TheConstants.{THREADS}
use Rattle.session_model.specs.World.{Setting, calls_at, notes_of_thread, opening_world, told}
use Rattle.session_model.specs.CallTypes.{Call}
use Rattle.session_model.specs.declared.line.Line.{Line}
use Rattle.call_laws.specs.History.{Thread, answered, reply_after}
use Rattle.call_laws.specs.Passings.{passings}
use Rattle.call_laws.specs.Readings.{line_of}

-- the thread of this number, if the threads have these streams; one without a stream has an empty one
abbrev pub thread_in : Setting → List Coming → ℕ → Thread
thread_in at streams t =
    let coming = slice_index_or streams t (record { rest = []; mark = Dry }) in
    record { book = at.book; shape = at.shape; number = t; stream = coming.rest; mark = coming.mark }

-- the reply to a thread's call is that to the call after the thread's own calls in the lines before it
abbrev pub RepliesAreOfThreads : Type 0
RepliesAreOfThreads = (at : Setting) (streams : List Coming) (lines : List Line) (i t : ℕ) (c : Call)
    → t < THREADS → slice_get lines i ≡ Some (line_of t c)
    → option_map (λ x. x.reply) (slice_get (told at (opening_world streams) lines) i)
    ≡ Some (reply_after (thread_in at streams t) (calls_at t (take i lines)) c)

-- a thread's handler is told of the thresholds that the thread's own calls pass
abbrev pub NotesAreOfThreads : Type 0
NotesAreOfThreads = (at : Setting) (streams : List Coming) (lines : List Line) (t : ℕ)
    → t < THREADS
    → notes_of_thread t (told at (opening_world streams) lines)
    ≡ passings (thread_in at streams t) (answered (thread_in at streams t) (calls_at t lines))
