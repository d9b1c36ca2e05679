-- All threads, line by line in the script's order: PAPI_register_thread(3), PAPI_list_threads(3),
-- PAPI_event_name_to_code(3). The script is this project's own.
use Rattle.std.specs.Prelude.{ℕ, zero, suc, ◌+◌, ◌*◌, Bool, true, false, ◌==◌, ◌&&◌, if◌then◌else◌, List, [], ◌∷◌, ◌++◌}
use Rattle.std.specs.Prelude.{Option, Some, None, Ok, Err, slice_get, slice_set, unwrap_or, position}
use Rattle.papi_base.specs.declared.native.Native.{Native}
use Rattle.overflow_dispatch.specs.declared.handler.Note.{Note}
use Rattle.papi_base.specs.declared.native.EventRef.TheVariants as event
use Rattle.papi_base.specs.declared.code.Code.TheVariants as code
use Rattle.postfix_rules.specs.NativeCodes.{native_code, native_named}
use Rattle.postfix_rules.specs.Sameness.{joined_by}
use Rattle.postfix_rules.specs.Presets.{Book}
use Rattle.session_model.specs.CallTypes.{Asked, Call}
use Rattle.call_type.specs.declared.call.Call.TheVariants as call
use Rattle.call_type.specs.declared.call.Asked.TheVariants as asked
use Rattle.session_model.specs.declared.line.Line.{Line}
use Rattle.session_model.specs.declared.reply.Body.{Body}
use Rattle.session_model.specs.declared.reply.Body.TheVariants as body
use Rattle.session_model.specs.declared.reply.Ended.{Ended}
use Rattle.session_model.specs.declared.reply.Ended.TheVariants as ended
use Rattle.session_model.specs.declared.reply.Reply.{Reply}
use Rattle.event_sets.specs.AtRest.{Widths}
use Rattle.papi_base.specs.Streams.{Coming, Dry}
use Rattle.papi_base.specs.declared.limits.TheConstants.{THREADS}
use Rattle.session_model.specs.Account.{Account, opening}
use Rattle.session_model.specs.Replies.{plain, done}
use Rattle.session_model.specs.Step.{StepOutcome, step}

-- what all threads share: the book of presets and user events, the codes of its rows, and the counters
pub record Setting : Type 0 where
  pub book : Book
  pub codes : List ℕ
  pub shape : Widths

-- the account of each thread, and the natives mentioned
pub record World : Type 0 where
  pub accounts : List Account
  pub mentioned : List Native

-- the accounts of n threads from this number on; a thread without a stream has an empty one
abbrev pub opening_accounts : ℕ → ℕ → List Coming → List Account
opening_accounts zero t streams = []
opening_accounts (suc n) t [] = opening t [] Dry ∷ opening_accounts n (t + 1) []
opening_accounts (suc n) t (s ∷ ss) = opening t s.rest s.mark ∷ opening_accounts n (t + 1) ss

-- the world before the first line, over these streams
abbrev pub opening_world : List Coming → World
opening_world streams = record { accounts = opening_accounts THREADS 0 streams; mentioned = [] }

-- a thread's account
abbrev pub account_at : List Account → ℕ → Account
account_at accounts t = unwrap_or (slice_get accounts t) (opening t [] Dry)

-- the natives that a line mentions, whatever the call answers
abbrev pub mentions_of_call : Call → List Native
mentions_of_call (call.Add k (Ok (event.Native n))) = n ∷ []
mentions_of_call (call.Remove k (Ok (event.Native n))) = n ∷ []
mentions_of_call (call.Overflow k (Ok (event.Native n)) t) = n ∷ []
mentions_of_call call = []

-- the natives that a line mentions, whatever it asks for
abbrev pub mentions_of : Asked → List Native
mentions_of (asked.Call c) = mentions_of_call c
mentions_of (asked.CodeOf (Ok (event.Native n))) = n ∷ []
mentions_of (asked.CodeOf e) = []
mentions_of (asked.NameOf c) = []
mentions_of asked.Threads = []

-- PAPI_event_code_to_name(3): the row of a preset or user event, or a native mentioned so far
abbrev pub name_by : Option ℕ → Option Native → Reply
name_by (Some row) native = done (body.EventName (event.Preset row))
name_by None (Some n) = done (body.EventName (event.Native n))
name_by None None = plain code.Enoevnt

-- the registered threads as bits, if the list begins at this bit: PAPI_list_threads(3)
abbrev pub listed_from : ℕ → List Account → ℕ
listed_from bit [] = 0
listed_from bit (a ∷ accounts) = (if a.registered then bit else 0) + listed_from (2 * bit) accounts

-- what a line that is not a session's call replies, if these natives are mentioned
abbrev pub answer : Setting → List Account → List Native → Asked → Reply
answer at accounts mentioned (asked.CodeOf (Ok (event.Native n))) = done (body.EventCode (native_code mentioned n))
answer at accounts mentioned (asked.CodeOf (Ok (event.Preset row))) = done (body.EventCode (unwrap_or (slice_get at.codes row) 0))
answer at accounts mentioned (asked.CodeOf (Err c)) = plain c
answer at accounts mentioned (asked.NameOf c) = name_by (position (λ x. x == c) at.codes) (native_named mentioned c)
answer at accounts mentioned asked.Threads = done (body.Threads (listed_from 1 accounts))
answer at accounts mentioned (asked.Call c) = plain code.Ok

-- what is told of one line
pub record LineTold : Type 0 where
  pub line : Line
  pub reply : Reply
  pub notes : List Note

-- the accounts after a line, and what is told of it
pub record Turn : Type 0 where
  pub accounts : List Account
  pub reply : Reply
  pub notes : List Note

-- the thread's account after its call, and what the call gives
abbrev pub turn_by : List Account → ℕ → StepOutcome → Turn
turn_by accounts t outcome = record { accounts = slice_set accounts t outcome.account; reply = outcome.reply; notes = outcome.notes }

-- what a line of a thread does, if these natives are mentioned
abbrev pub turn : Setting → List Account → List Native → ℕ → Asked → Turn
turn at accounts mentioned t (asked.Call c) = turn_by accounts t (step at.book at.shape (account_at accounts t) c)
turn at accounts mentioned t a = record { accounts = accounts; reply = answer at accounts mentioned a; notes = [] }

-- the natives mentioned up to and with a line
abbrev pub mentioned_after : List Native → Line → List Native
mentioned_after mentioned l = joined_by mentioned (mentions_of l.asked)

-- what a line does to a world: its own mention counts
abbrev pub turn_of : Setting → World → Line → Turn
turn_of at w l = turn at w.accounts (mentioned_after w.mentioned l) l.thread l.asked

-- the world after one line
abbrev pub world_after_line : Setting → World → Line → World
world_after_line at w l = record { accounts = (turn_of at w l).accounts; mentioned = mentioned_after w.mentioned l }

-- what is told of each line, in the script's order
abbrev pub told : Setting → World → List Line → List LineTold
told at w [] = []
told at w (l ∷ ls) = record { line = l; reply = (turn_of at w l).reply; notes = (turn_of at w l).notes } ∷ told at (world_after_line at w l) ls

-- the world after some lines
abbrev pub world_after : Setting → World → List Line → World
world_after at w [] = w
world_after at w (l ∷ ls) = world_after at (world_after_line at w l) ls

-- the line asks for a call on a session
abbrev pub is_call : Asked → Bool
is_call (asked.Call c) = true
is_call (asked.CodeOf e) = false
is_call (asked.NameOf c) = false
is_call asked.Threads = false

-- the line is a call on the thread's session
abbrev pub calls_on : ℕ → Line → Bool
calls_on t l = (l.thread == t) && is_call l.asked

-- the call that a line asks for, as a list of one or none
abbrev pub calls_asked : Asked → List Call
calls_asked (asked.Call c) = c ∷ []
calls_asked (asked.CodeOf e) = []
calls_asked (asked.NameOf c) = []
calls_asked asked.Threads = []

-- a thread's calls, in order
abbrev pub calls_at : ℕ → List Line → List Call
calls_at t [] = []
calls_at t (l ∷ ls) = (if l.thread == t then calls_asked l.asked else []) ++ calls_at t ls

-- the replies to a thread's calls, in order
abbrev pub replies_at : ℕ → List LineTold → List Reply
replies_at t [] = []
replies_at t (x ∷ xs) = (if calls_on t x.line then x.reply ∷ [] else []) ++ replies_at t xs

-- the notes of a thread, in order
abbrev pub notes_of_thread : ℕ → List LineTold → List Note
notes_of_thread t [] = []
notes_of_thread t (x ∷ xs) = (if x.line.thread == t then x.notes else []) ++ notes_of_thread t xs

-- how a run ended, if the reply is that of a run that met a mark
abbrev pub met_by : Ended → Option Ended
met_by ended.Going = None
met_by (ended.Bad line cause) = Some (ended.Bad line cause)
met_by ended.Fault = Some ended.Fault

-- the mark that a reply shows, if it is one of a run that met one
abbrev pub met_in : Body → Option Ended
met_in (body.Ran r) = met_by r.ended
met_in b = None

-- the mark that a thread's runs met
abbrev pub first_met : Option Ended → Option Ended → Option Ended
first_met None later = later
first_met (Some e) later = Some e

-- the first mark that these replies show
abbrev pub met_mark : List Reply → Option Ended
met_mark [] = None
met_mark (r ∷ rs) = first_met (met_in r.body) (met_mark rs)
