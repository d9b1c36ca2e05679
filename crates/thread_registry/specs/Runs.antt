-- What a run of a plan gives: the world of the script's lines, in their order.
use Rattle.std.specs.Prelude.{ℕ, ◌≡◌, ◌<◌, List, [], ◌∷◌, length, map, slice_get, slice_index_or, Option, Some, None}
use Rattle.std.specs.List.{range_with_len}
use Rattle.overflow_dispatch.specs.declared.handler.Note.{Note}
use Rattle.call_type.specs.Calls.{name_of}
use Rattle.papi_base.specs.Streams.{Coming}
use Rattle.postfix_rules.specs.Presets.{Book}
use Rattle.event_sets.specs.AtRest.{Widths}
use Rattle.session_model.specs.declared.line.Line.{Line}
use Rattle.session_model.specs.World.{Setting, LineTold, told, opening_world, notes_of_thread}
use Rattle.stream_reader.specs.Reader.{ReaderView, coming}
use Rattle.thread_session.specs.Faults.{FaultsKept}
use Rattle.thread_session.specs.Prospects.{CanCome}
use Rattle.thread_registry.specs.declared.runner.plan.PlanLine.{PlanLine}
use Rattle.thread_registry.specs.declared.runner.result.ReplyLine.{ReplyLine}
use Rattle.thread_registry.specs.Plans.{IsPlanOf, planned_at}
use Rattle.papi_base.specs.declared.limits.TheConstants.{THREADS}

-- The plan is run with this book and shape on these readers: it is that of the script's lines in the setting, and the readers tell the streams, one a thread.
pub record IsPlannedAndTold (at : Setting) (script : List Line) (streams : List Coming) (book : Book) (shape : Widths) (plan : List PlanLine)
    (readers : List ReaderView) : Type 0 where
  pub same_book : at.book ≡ book
  pub same_shape : at.shape ≡ shape
  pub looked_up : IsPlanOf at script plan
  pub streams_told : map (λ r. coming r) readers ≡ map (λ s. Some s) streams

-- The plan is that of the script's lines in the setting, with this book and shape.
pub record IsPlannedFrom (at : Setting) (script : List Line) (book : Book) (shape : Widths) (plan : List PlanLine) : Type 0 where
  pub same_book : at.book ≡ book
  pub same_shape : at.shape ≡ shape
  pub looked_up : IsPlanOf at script plan

-- These can come of the readers, one of each: what a reader tells, if it tells.
pub record CanEachCome (readers : List ReaderView) (streams : List Coming) : Type 0 where
  pub same_length : length streams ≡ length readers
  pub each : (t : ℕ) (r : ReaderView) (s : Coming) → t < length readers → CanCome (slice_index_or readers t r) (slice_index_or streams t s)

-- what is told of the script's lines if the threads have these streams
abbrev pub world_told : Setting → List Line → List Coming → List LineTold
world_told at script streams = told at (opening_world streams) script

-- the notes of each thread
abbrev pub notes_by_thread : List LineTold → List (List Note)
notes_by_thread xs = map (λ t. notes_of_thread t xs) (range_with_len 0 THREADS)

-- the replies beside the lines of the plan
abbrev pub reply_lines : List PlanLine → List LineTold → List ReplyLine
reply_lines [] xs = []
reply_lines (l ∷ ls) [] = []
reply_lines (l ∷ ls) (x ∷ xs) = record { line = l.number; thread = l.thread; word = name_of l.planned; reply = x.reply } ∷ reply_lines ls xs

-- the reader of a thread without calls, and what its handler was told, are as they were before
pub record IdleStay (plan : List PlanLine) (readers readers_then : List ReaderView) (before after : List (List Note)) : Type 0 where
  pub unread : (t : ℕ) → planned_at t plan ≡ [] → slice_get readers_then t ≡ slice_get readers t
  pub untold : (t : ℕ) → planned_at t plan ≡ [] → slice_get after t ≡ slice_get before t

-- each reader's count of faults, before and after: none fell
pub record AllKept (before after : List (Option ℕ)) : Type 0 where
  pub same_length : length after ≡ length before
  pub each : (t : ℕ) → FaultsKept (slice_index_or before t None) (slice_index_or after t None)

-- the numbers, threads and words are those of the plan
pub record AreInOrder (plan : List PlanLine) (lines : List ReplyLine) : Type 0 where
  pub numbers : map (λ l. l.line) lines ≡ map (λ l. l.number) plan
  pub threads : map (λ l. l.thread) lines ≡ map (λ l. l.thread) plan
  pub words : map (λ l. l.word) lines ≡ map (λ l. name_of l.planned) plan
