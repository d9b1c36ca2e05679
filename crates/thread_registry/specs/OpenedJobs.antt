-- What is seen of a job.
use Rattle.std.specs.Prelude.{◌≡◌, ◌<◌, List, [], length}
use Rattle.overflow_dispatch.specs.declared.handler.Note.{Note}
use Rattle.postfix_rules.specs.Presets.{Book}
use Rattle.session_model.specs.CallTypes.{Call}
use Rattle.stream_reader.specs.Reader.{ReaderView}
use Rattle.thread_core.specs.CoreView.{opening_core}
use Rattle.thread_session.specs.SessionView.{SessionView}
use Rattle.thread_registry.specs.declared.job.Job.{Job}
use Rattle.thread_registry.specs.declared.opened.Opened.{Opened}
use Rattle.thread_registry.specs.declared.opened.Opened.TheVariants as opened
use Rattle.thread_registry.specs.JobView.{CanWork, JobView}

-- a reader alone, seen beside a core of no counters
abbrev pub unopened : ReaderView → SessionView
unopened r = record { core = opening_core 0 []; reader = r }

-- the session of a thread
abbrev pub session_of : {S : Type 0} → Opened S → SessionView
session_of (opened.Session s) = s
session_of (opened.Reader r) = unopened r

-- a job, given what its handler has been told
abbrev pub seen : {S X : Type 0} {V : X → Type 0} → List Note → Job S X V → JobView
seen notes j = record {
  session = session_of j.session;
  notes = notes;
  calls = j.calls.items;
  replies = j.replies;
  starved = j.starved;
}

-- a session is opened for a thread with calls, and for no other
abbrev pub IsOpenedForCalls : {S : Type 0} → Opened S → List Call → Type 0
IsOpenedForCalls (opened.Session s) calls = 0 < length calls
IsOpenedForCalls (opened.Reader r) calls = calls ≡ []

-- a session is opened if there are calls, and they meet their conditions with this book
pub record CanBeWorked {S : Type 0} (book : Book) (o : Opened S) (calls : List Call) : Type 0 where
  pub opened : IsOpenedForCalls o calls
  pub can : 0 < length calls → CanWork book (session_of o) calls
