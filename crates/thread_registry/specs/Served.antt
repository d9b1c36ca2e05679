-- What each thread gets, by its calls, its stream and what its handler was told before.
use Rattle.std.specs.Prelude.{ℕ, ◌≡◌, ◌<◌, ◌++◌, Bool, false, List, [], All, length, Some, slice_index_or}
use Rattle.overflow_dispatch.specs.declared.handler.Note.{Note}
use Rattle.overflow_dispatch.specs.Notes.{Begun, Grown}
use Rattle.papi_base.specs.Streams.{Coming}
use Rattle.postfix_rules.specs.Presets.{Book}
use Rattle.event_sets.specs.AtRest.{Widths}
use Rattle.session_model.specs.CallTypes.{Call}
use Rattle.session_model.specs.declared.reply.Reply.{Reply}
use Rattle.session_model.specs.Account.{opening}
use Rattle.session_model.specs.Step.{notes_to, replies_to}
use Rattle.stream_reader.specs.Reader.{ReaderView, coming}
use Rattle.thread_session.specs.Faults.{FaultsKept, FaultsRose, IsFaultReply, fault_count}
use Rattle.thread_session.specs.Prospects.{CanCome}
use Rattle.thread_registry.specs.declared.runner.plan.PlanLine.{PlanLine}
use Rattle.thread_registry.specs.Plans.{planned_at}
use Rattle.papi_base.specs.declared.limits.TheConstants.{THREADS}

-- If this was to come, the thread's handler was told the notes of the calls, or if memory was refused some of the first; and these are the replies.
pub record ServedAs (book : Book) (shape : Widths) (refused : Bool) (t : ℕ) (calls : List Call) (before after : List Note) (replies : List Reply)
    (stream : Coming) : Type 0 where
  pub begun : Begun before (notes_to book shape (opening t stream.rest stream.mark) calls) after
  pub done :
      refused ≡ false
      → (after ≡ before ++ notes_to book shape (opening t stream.rest stream.mark) calls)
      × (replies ≡ replies_to book shape (opening t stream.rest stream.mark) calls)

-- The thread made these calls over its reader, and its handler was told of them; or memory was refused in some job.
pub record Served (book : Book) (shape : Widths) (refused : Bool) (t : ℕ) (reader reader_then : ReaderView) (calls : List Call)
    (before after : List Note) (replies : List Reply) : Type 0 where
  pub idle : calls ≡ [] → (reader_then ≡ reader) × (after ≡ before)
  pub kept : FaultsKept (fault_count reader) (fault_count reader_then)
  pub faulty : All (λ r. IsFaultReply r → FaultsRose (fault_count reader) (fault_count reader_then)) replies
  pub grown : Grown before after
  pub counted : refused ≡ false → length replies ≡ length calls
  pub begun : (stream : Coming) → coming reader ≡ Some stream → Begun before (notes_to book shape (opening t stream.rest stream.mark) calls) after
  pub done :
      refused ≡ false → (stream : Coming) → coming reader ≡ Some stream
      → (after ≡ before ++ notes_to book shape (opening t stream.rest stream.mark) calls)
      × (replies ≡ replies_to book shape (opening t stream.rest stream.mark) calls)
  pub possible : (stream : Coming) × CanCome reader stream × ServedAs book shape refused t calls before after replies stream

-- Each thread made its calls of the plan.
pub record AreServed (book : Book) (shape : Widths) (refused : Bool) (plan : List PlanLine) (readers readers_then : List ReaderView)
    (before after : List (List Note)) (replies : List (List Reply)) : Type 0 where
  pub readers_len : length readers_then ≡ THREADS
  pub notes_len : length after ≡ THREADS
  pub replies_len : length replies ≡ THREADS
  pub each :
      (t : ℕ) (r : ReaderView) → t < THREADS
      → Served book shape refused t (slice_index_or readers t r) (slice_index_or readers_then t r) (planned_at t plan)
      (slice_index_or before t []) (slice_index_or after t []) (slice_index_or replies t [])
