-- What a thread's user sees: the calls, their replies, and what the runs among them took of the thread's stream.
use Rattle.std.specs.Prelude.{ℕ, ◌+◌, ◌==◌, Bool, true, false, List, [], ◌∷◌, take, drop, Option, Some, None}
use Rattle.std.specs.Option.{option_map_or}
use Rattle.papi_base.specs.Streams.{Mark}
use Rattle.papi_base.specs.declared.code.Code.{Code}
use Rattle.papi_base.specs.declared.code.Code.TheVariants as code
use Rattle.papi_base.specs.declared.occurrence.Occ.{Occ}
use Rattle.postfix_rules.specs.Presets.{Book}
use Rattle.event_sets.specs.AtRest.{Widths}
use Rattle.session_model.specs.CallTypes.{Call}
use Rattle.session_model.specs.declared.reply.Body.{Body}
use Rattle.session_model.specs.declared.reply.Body.TheVariants as body
use Rattle.session_model.specs.declared.reply.Reply.{Reply}
use Rattle.session_model.specs.Account.{Account, opening}
use Rattle.session_model.specs.Step.{account_after, replies_to, step}

-- a thread: its number, its stream and how that ends, and the presets and counters that it is over
pub record Thread : Type 0 where
  pub book : Book
  pub shape : Widths
  pub number : ℕ
  pub stream : List Occ
  pub mark : Mark

-- a call and its reply
pub record CallReply : Type 0 where
  pub call : Call
  pub reply : Reply

-- some calls and their replies, the latest first, and before them the earlier ones
abbrev pub history : List Call → List Reply → List CallReply → List CallReply
history [] replies earlier = earlier
history (c ∷ calls) [] earlier = earlier
history (c ∷ calls) (r ∷ replies) earlier = history calls replies (record { call = c; reply = r } ∷ earlier)

-- the thread before its first call
abbrev pub begun : Thread → Account
begun t = opening t.number t.stream t.mark

-- the thread's first calls and their replies, the latest first
abbrev pub answered : Thread → List Call → List CallReply
answered t calls = history calls (replies_to t.book t.shape (begun t) calls) []

-- the reply to a call that comes after these
abbrev pub reply_after : Thread → List Call → Call → Reply
reply_after t calls c = (step t.book t.shape (account_after t.book t.shape (begun t) calls) c).reply

-- ---- occurrences

-- an occurrence, and the one that came just before it in the stream, if one did
pub record OccAfter : Type 0 where
  pub before : Option Occ
  pub occ : Occ

-- the occurrences of a stream, each with the one before it
abbrev pub placed_after : Option Occ → List Occ → List OccAfter
placed_after before [] = []
placed_after before (o ∷ os) = record { before = before; occ = o } ∷ placed_after (Some o) os

-- how many occurrences a call took
abbrev pub taken_by : Body → ℕ
taken_by (body.Ran r) = r.consumed
taken_by b = 0

-- how many occurrences the calls took
abbrev pub taken : List CallReply → ℕ
taken [] = 0
taken (x ∷ earlier) = taken earlier + taken_by x.reply.body

-- the occurrences that a call took, if these came before it
abbrev pub newly_taken : List Occ → CallReply → List CallReply → List OccAfter
newly_taken stream x earlier = take (taken_by x.reply.body) (drop (taken earlier) (placed_after None stream))

-- ---- what a call did

-- PAPI_OK
abbrev pub is_ok : Code → Bool
is_ok code.Ok = true
is_ok c = false

-- the number is this one
abbrev pub is_number : ℕ → Option ℕ → Bool
is_number k number = option_map_or (λ j. j == k) number false

-- the number of the set that a reply says was made: PAPI_create_eventset(3)
abbrev pub set_made : Body → Option ℕ
set_made (body.SetNumber k) = Some k
set_made b = None

-- the call made the set of this number
abbrev pub makes : ℕ → CallReply → Bool
makes k x = is_number k (set_made x.reply.body)
