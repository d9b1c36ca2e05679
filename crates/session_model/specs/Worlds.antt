-- The world looked at on one thread is the fold of its steps, and the replies of all threads' calls, merged, are the world's.
use Rattle.std.specs.Prelude.{ℕ, ◌+◌, ◌*◌, ◌≡◌, ◌<◌, Bool, true, false, if◌then◌else◌, List, [], ◌∷◌, All, drop, length, map}
use Rattle.std.specs.Prelude.{Some, slice_get, slice_index_or, slice_set}
use Rattle.papi_base.specs.declared.code.Code.{Code}
use Rattle.papi_base.specs.declared.code.Code.TheVariants as code
use Rattle.papi_base.specs.declared.native.Native.{Native}
use Rattle.papi_base.specs.Streams.{Coming, Dry}
use Rattle.papi_base.specs.declared.limits.TheConstants.{THREADS}
use Rattle.postfix_rules.specs.Presets.{Book}
use Rattle.event_sets.specs.AtRest.{Widths}
use Rattle.session_model.specs.CallTypes.{Asked, Call}
use Rattle.call_type.specs.declared.call.Call.TheVariants as call
use Rattle.call_type.specs.declared.call.Asked.TheVariants as asked
use Rattle.session_model.specs.declared.line.Line.{Line}
use Rattle.session_model.specs.declared.reply.Body.TheVariants as body
use Rattle.session_model.specs.declared.reply.Reply.{Reply}
use Rattle.session_model.specs.Account.{Account, opening}
use Rattle.session_model.specs.Replies.{done, plain}
use Rattle.session_model.specs.Step.{account_after, notes_to, replies_to, step}
use Rattle.session_model.specs.World.{Setting, World, answer, calls_at, mentioned_after, notes_of_thread, opening_world, replies_at, told, world_after}

-- each thread begins with its opening account; a thread without a stream has an empty one
abbrev pub OpensByThread : Type 0
OpensByThread = (streams : List Coming) (t : ℕ) → t < THREADS
    → let coming = slice_index_or streams t (record { rest = []; mark = Dry }) in
    slice_get (opening_world streams).accounts t ≡ Some (opening t coming.rest coming.mark)

-- a thread's account after the script is its account after its own calls
abbrev pub AccountByThread : Type 0
AccountByThread = (at : Setting) (w : World) (ls : List Line) (t : ℕ) (a : Account) → slice_get w.accounts t ≡ Some a
    → slice_get (world_after at w ls).accounts t ≡ Some (account_after at.book at.shape a (calls_at t ls))

-- the replies to its calls are those of the calls alone
abbrev pub RepliesByThread : Type 0
RepliesByThread = (at : Setting) (w : World) (ls : List Line) (t : ℕ) (a : Account) → slice_get w.accounts t ≡ Some a
    → replies_at t (told at w ls) ≡ replies_to at.book at.shape a (calls_at t ls)

-- and so are its notes
abbrev pub NotesByThread : Type 0
NotesByThread = (at : Setting) (w : World) (ls : List Line) (t : ℕ) (a : Account) → slice_get w.accounts t ≡ Some a
    → notes_of_thread t (told at w ls) ≡ notes_to at.book at.shape a (calls_at t ls)

-- whether a thread is registered after a call to which this code was replied
abbrev pub registered_after : Call → Code → Bool → Bool
registered_after call.Register c on = true
registered_after call.Unregister code.Ok on = false
registered_after call.Unregister c on = on
registered_after made c on = on

-- whether a thread is registered after a call follows from the call and the code of its reply: PAPI_register_thread(3), PAPI_unregister_thread(3)
abbrev pub RegisteredFollows : Type 0
RegisteredFollows = (book : Book) (shape : Widths) (a : Account) (made : Call)
    → (step book shape a made).account.registered ≡ registered_after made (step book shape a made).reply.code a.registered

-- the flags as bits, from this one on
abbrev pub bits_from : ℕ → List Bool → ℕ
bits_from bit [] = 0
bits_from bit (on ∷ flags) = (if on then bit else 0) + bits_from (2 * bit) flags

-- what a line that is not a session's call replies, if these natives are mentioned and these threads are registered
abbrev pub answer_by : Setting → List Native → List Bool → Asked → Reply
answer_by at mentioned flags asked.Threads = done (body.Threads (bits_from 1 flags))
answer_by at mentioned flags (asked.CodeOf e) = answer at [] mentioned (asked.CodeOf e)
answer_by at mentioned flags (asked.NameOf c) = answer at [] mentioned (asked.NameOf c)
answer_by at mentioned flags (asked.Call c) = plain code.Ok

-- the first of a thread's further replies, and those after it
abbrev pub next_reply : List Reply → Reply
next_reply [] = plain code.Ok
next_reply (r ∷ rs) = r

-- what is left after a line: each thread's flag and its further replies
pub record Ahead : Type 0 where
  pub flags : List Bool
  pub replies : List (List Reply)

-- a call takes the first of its thread's further replies, which says whether the thread is registered then; other lines change nothing
abbrev pub ahead_after : Ahead → ℕ → Asked → Ahead
ahead_after x t (asked.Call c) = record {
  flags = slice_set x.flags t (registered_after c (next_reply (slice_index_or x.replies t [])).code (slice_index_or x.flags t false));
  replies = slice_set x.replies t (drop 1 (slice_index_or x.replies t []));
}
ahead_after x t (asked.CodeOf e) = x
ahead_after x t (asked.NameOf c) = x
ahead_after x t asked.Threads = x

-- the reply to a line: the next one of its thread if it is a session's call, and else what the registered threads and mentions answer
abbrev pub merged_reply : Setting → List Native → Ahead → ℕ → Asked → Reply
merged_reply at mentioned x t (asked.Call c) = next_reply (slice_index_or x.replies t [])
merged_reply at mentioned x t (asked.CodeOf e) = answer_by at mentioned x.flags (asked.CodeOf e)
merged_reply at mentioned x t (asked.NameOf c) = answer_by at mentioned x.flags (asked.NameOf c)
merged_reply at mentioned x t asked.Threads = answer_by at mentioned x.flags asked.Threads

-- the replies in the script's order, each call's taken from those of its thread
abbrev pub merged : Setting → List Native → Ahead → List Line → List Reply
merged at mentioned x [] = []
merged at mentioned x (l ∷ ls) =
    merged_reply at (mentioned_after mentioned l) x l.thread l.asked
    ∷ merged at (mentioned_after mentioned l) (ahead_after x l.thread l.asked) ls

-- each thread's replies are those to its calls, and its flag is its account's
pub record IsAhead (at : Setting) (accounts : List Account) (ls : List Line) (x : Ahead) : Type 0 where
  pub registered : x.flags ≡ map (λ a. a.registered) accounts
  pub same_length : length x.replies ≡ length accounts
  pub replies_each : (t : ℕ) (a : Account) → slice_get accounts t ≡ Some a
      → slice_index_or x.replies t [] ≡ replies_to at.book at.shape a (calls_at t ls)

-- replies that are merged so are those of the world
abbrev pub MergesToWorld : Type 0
MergesToWorld = (at : Setting) (w : World) (ls : List Line) (x : Ahead)
    → All (λ l. l.thread < length w.accounts) ls → IsAhead at w.accounts ls x
    → merged at w.mentioned x ls ≡ map (λ y. y.reply) (told at w ls)
