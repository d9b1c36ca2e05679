-- What a program does with a library from its opening on, and the account of one thread that it comes to: docs/FORMATS.md, "Occurrences as numbers".
use Rattle.std.specs.Prelude.{ℕ, ◌≡◌, ◌++◌, List, [], ◌∷◌, length, map, flat_map, false, ⊤}
use Rattle.papi_base.specs.Streams.{Dry}
use Rattle.papi_base.specs.declared.occurrence.Occ.{Occ}
use Rattle.overflow_dispatch.specs.declared.handler.Note.{Note}
use Rattle.component_table.specs.Catalogs.{CatalogView}
use Rattle.call_type.specs.declared.call.Call.TheVariants as call
use Rattle.session_model.specs.Account.{Account, opening, time_after}
use Rattle.session_model.specs.CallTypes.{Call}
use Rattle.session_model.specs.Step.{notes_to, ran_reply, replies_to}
use Rattle.session_model.specs.declared.reply.Ended.TheVariants as ended
use Rattle.session_model.specs.declared.reply.Reply.{Reply}
use Rattle.thread_session.specs.Follows.{is_run}
use Rattle.thread_session.specs.Happening.{Happens, occurrences}
use Rattle.thread_session.specs.declared.happening.Happening.{Happening}
use Rattle.papi_calls.specs.Calls.{Made}
use Rattle.papi_calls.specs.Libraries.{IsOpened, LibraryView}

-- what a program does: it makes a call, or hands over occurrences, so many of which happen
pub data Deed : Type 0 where
  Makes : Call → Deed
  Hands : Happening → ℕ → Deed

-- a deed, its reply and its notes, and the library after it
pub record Moment : Type 0 where
  pub deed : Deed
  pub reply : Reply
  pub notes : List Note
  pub later : LibraryView

-- the occurrences of a deed
abbrev pub of_deed : LibraryView → Deed → List Occ
of_deed l (Makes made) = []
of_deed l (Hands what amount) = occurrences what amount (time_after l.session.core.last)

-- the same as a call of a thread that reads them from a stream
abbrev pub as_call : LibraryView → Deed → Call
as_call l (Makes made) = made
as_call l (Hands what amount) = call.Run (length (of_deed l (Hands what amount)))

-- The deed did and gave what the contract of its function says. What happens is told by its notes: its reply is that of a run.
abbrev pub Did : LibraryView → Deed → LibraryView → Reply → List Note → Type 0
Did old (Makes made) new reply notes = (is_run made ≡ false) × Made old new made reply × (notes ≡ [])
Did old (Hands what amount) new reply notes = Happens old.catalog.book old.session new.session what amount notes × (new.catalog ≡ old.catalog)
    × (reply ≡ ran_reply (length (of_deed old (Hands what amount))) notes ended.Going)

-- one after another
abbrev pub DidAll : LibraryView → List Moment → Type 0
DidAll l [] = ⊤
DidAll l (m ∷ ms) = Did l m.deed m.later m.reply m.notes × DidAll m.later ms

-- the stream that was handed over in all
abbrev pub handed : LibraryView → List Moment → List Occ
handed l [] = []
handed l (m ∷ ms) = of_deed l m.deed ++ handed m.later ms

-- all deeds as calls
abbrev pub calls_of : LibraryView → List Moment → List Call
calls_of l [] = []
calls_of l (m ∷ ms) = as_call l m.deed ∷ calls_of m.later ms

-- Each reply and each note is that of the account of one thread over the whole stream.
pub record IsOneThread (l : LibraryView) (a : Account) (ms : List Moment) : Type 0 where
  pub replies : map (λ (m : Moment). m.reply) ms ≡ replies_to l.catalog.book l.session.core.shape a (calls_of l ms)
  pub notes : flat_map (λ (m : Moment). m.notes) ms ≡ notes_to l.catalog.book l.session.core.shape a (calls_of l ms)

-- Whatever a program does from the opening on of a library without a stream, in whatever pieces it hands over what occurs: what it is told is what
-- the one-thread definition says of its calls over the stream that it handed over in all.
abbrev pub EachHistoryIsOneThread : Type 0
EachHistoryIsOneThread = (given : CatalogView) (thread : ℕ) (l : LibraryView) (ms : List Moment) → IsOpened given thread [] l → DidAll l ms → IsOneThread l (opening thread (handed l ms) Dry) ms
