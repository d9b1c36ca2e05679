-- Lines without their replies, and the replies that they stand for.
use Rattle.std.specs.Prelude.{ℕ, ◌≡◌, ◌<◌, ⊤, List, [], All, Some, None, Ok, Err, length, slice_index_or}
use Rattle.papi_base.specs.declared.code.Code.TheVariants as code
use Rattle.session_model.specs.declared.reply.Body.TheVariants as body
use Rattle.session_model.specs.declared.reply.Reply.{Reply}
use Rattle.session_model.specs.Replies.{done, plain}
use Rattle.thread_registry.specs.declared.runner.lines.Answer.{Answer}
use Rattle.thread_registry.specs.declared.runner.lines.Answer.TheVariants as answer
use Rattle.thread_registry.specs.declared.runner.lines.AnsweredLine.{AnsweredLine}
use Rattle.thread_registry.specs.declared.runner.result.ReplyLine.{ReplyLine}

-- the reply at a place of a thread's list
abbrev pub made_at : List (List Reply) → ℕ → ℕ → Reply
made_at lists t place = slice_index_or (slice_index_or lists t []) place (plain code.Ok)

-- the reply that a line is answered with
abbrev pub answer_of : List (List Reply) → ℕ → Answer → Reply
answer_of lists t (answer.Made place) = made_at lists t place
answer_of lists t (answer.CodeOf (Ok n)) = done (body.EventCode n)
answer_of lists t (answer.CodeOf (Err c)) = plain c
answer_of lists t (answer.NameOf (Some e)) = done (body.EventName e)
answer_of lists t (answer.NameOf None) = plain code.Enoevnt
answer_of lists t (answer.Threads threads) = done (body.Threads threads)

-- the line with its reply
abbrev pub line_of : List (List Reply) → AnsweredLine → ReplyLine
line_of lists l = record { line = l.line; thread = l.thread; word = l.word; reply = answer_of lists l.thread l.answer }

-- this is the thread's list
pub record IsListOf (lists : List (List Reply)) (t : ℕ) (list : List Reply) : Type 0 where
  pub listed : t < length lists
  pub is : slice_index_or lists t [] ≡ list

-- the thread has a list, and this place is in it
pub record IsMade (lists : List (List Reply)) (t place : ℕ) : Type 0 where
  pub listed : t < length lists
  pub inside : place < length (slice_index_or lists t [])

-- a reply of its thread is there
abbrev pub IsAnsweredBy : List (List Reply) → ℕ → Answer → Type 0
IsAnsweredBy lists t (answer.Made place) = IsMade lists t place
IsAnsweredBy lists t a = ⊤

-- the reply of the line is there
abbrev pub IsAnswered : List (List Reply) → AnsweredLine → Type 0
IsAnswered lists l = IsAnsweredBy lists l.thread l.answer

-- the reply of each line is there
abbrev pub AllAnswered : List (List Reply) → List AnsweredLine → Type 0
AllAnswered lists lines = All (IsAnswered lists) lines
