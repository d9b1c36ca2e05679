-- What a refused call leaves as it was: everything but the table of mentioned codes. PAPI_event_name_to_code(3).
use Rattle.std.specs.Prelude.{ℕ, ◌≡◌, Bool, true, false, not, ◌&&◌, if◌then◌else◌, List, [], ◌∷◌, ◌++◌, filter, Some}
use Rattle.papi_base.specs.declared.native.Native.{Native}
use Rattle.postfix_rules.specs.NativeCodes.{native_code, native_named}
use Rattle.postfix_rules.specs.Presets.{Book}
use Rattle.postfix_rules.specs.Sameness.{among}
use Rattle.event_sets.specs.AtRest.{Widths}
use Rattle.session_model.specs.CallTypes.{Call}
use Rattle.session_model.specs.declared.line.Line.{Line}
use Rattle.session_model.specs.declared.reply.Body.{Body}
use Rattle.session_model.specs.declared.reply.Body.TheVariants as body
use Rattle.session_model.specs.declared.reply.Reply.{Reply}
use Rattle.session_model.specs.Account.{Account}
use Rattle.session_model.specs.Step.{account_after, notes_to, replies_to}
use Rattle.session_model.specs.World.{Setting, World, turn_of, world_after, world_after_line}
use Rattle.call_laws.specs.History.{is_ok}

-- the reply to a run
abbrev pub is_of_run : Body → Bool
is_of_run (body.Ran r) = true
is_of_run b = false

-- A refusal: a code that is not PAPI_OK. A run is never refused; it replies with PAPI_ESYS if its stream ends by a fault.
abbrev pub is_refusal : Reply → Bool
is_refusal r = not (is_ok r.code) && not (is_of_run r.body)

-- the calls that were not refused
abbrev pub carried_out : List Call → List Reply → List Call
carried_out [] replies = []
carried_out (c ∷ calls) [] = []
carried_out (c ∷ calls) (r ∷ replies) = (if is_refusal r then [] else c ∷ []) ++ carried_out calls replies

-- the calls of a list that are not refused, one after another from this account on
abbrev pub without_refused : Book → Widths → Account → List Call → List Call
without_refused book shape a calls = carried_out calls (replies_to book shape a calls)

-- without its refused calls a list leaves the same account
abbrev pub SameAccount : Type 0
SameAccount = (book : Book) (shape : Widths) (a : Account) (calls : List Call)
    → account_after book shape a (without_refused book shape a calls) ≡ account_after book shape a calls

-- the other calls have the same replies
abbrev pub SameReplies : Type 0
SameReplies = (book : Book) (shape : Widths) (a : Account) (calls : List Call)
    → replies_to book shape a (without_refused book shape a calls) ≡ filter (λ r. not (is_refusal r)) (replies_to book shape a calls)

-- and the handler is told the same
abbrev pub SameNotes : Type 0
SameNotes = (book : Book) (shape : Widths) (a : Account) (calls : List Call)
    → notes_to book shape a (without_refused book shape a calls) ≡ notes_to book shape a calls

-- a line that is refused leaves each thread's account as it was
abbrev pub RefusedLineStays : Type 0
RefusedLineStays = (at : Setting) (w : World) (l : Line)
    → is_refusal (turn_of at w l).reply ≡ true → (world_after_line at w l).accounts ≡ w.accounts

-- a code that was given to a native event keeps its meaning, whatever lines follow
abbrev pub NamesStay : Type 0
NamesStay = (at : Setting) (w : World) (ls : List Line) (c : ℕ) (n : Native)
    → native_named w.mentioned c ≡ Some n → native_named (world_after at w ls).mentioned c ≡ Some n

-- and a native event that was mentioned keeps its code
abbrev pub CodesStay : Type 0
CodesStay = (at : Setting) (w : World) (ls : List Line) (n : Native)
    → among n w.mentioned ≡ true → native_code (world_after at w ls).mentioned n ≡ native_code w.mentioned n
