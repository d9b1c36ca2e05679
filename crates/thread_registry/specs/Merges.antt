-- The lines of a plan, answered one after another: each call's reply is the next one of its thread's.
use Rattle.std.specs.Prelude.{ℕ, Bool, false, List, [], ◌∷◌, drop, Some, None, Ok, Err, slice_index_or, slice_set}
use Rattle.call_type.specs.Calls.{name_of}
use Rattle.papi_base.specs.declared.code.Code.TheVariants as code
use Rattle.session_model.specs.declared.reply.Body.TheVariants as body
use Rattle.session_model.specs.declared.reply.Reply.{Reply}
use Rattle.session_model.specs.Replies.{done, plain}
use Rattle.session_model.specs.Worlds.{Ahead, bits_from, next_reply, registered_after}
use Rattle.thread_registry.specs.Plans.{Planned}
use Rattle.call_type.specs.declared.call.Asked.TheVariants as asked
use Rattle.thread_registry.specs.declared.runner.plan.PlanLine.{PlanLine}
use Rattle.thread_registry.specs.declared.runner.result.ReplyLine.{ReplyLine}

-- the reply to a line, if its thread has these further replies and these threads are registered
abbrev pub reply_by : List Bool → List Reply → Planned → Reply
reply_by flags replies (asked.Call c) = next_reply replies
reply_by flags replies (asked.CodeOf (Ok n)) = done (body.EventCode n)
reply_by flags replies (asked.CodeOf (Err c)) = plain c
reply_by flags replies (asked.NameOf (Some e)) = done (body.EventName e)
reply_by flags replies (asked.NameOf None) = plain code.Enoevnt
reply_by flags replies asked.Threads = done (body.Threads (bits_from 1 flags))

-- the thread's replies after the line's
abbrev pub rest_by : List Reply → Planned → List Reply
rest_by replies (asked.Call c) = drop 1 replies
rest_by replies (asked.CodeOf c) = replies
rest_by replies (asked.NameOf e) = replies
rest_by replies asked.Threads = replies

-- the threads that are registered after the line
abbrev pub flags_by : List Bool → List Reply → ℕ → Planned → List Bool
flags_by flags replies t (asked.Call c) = slice_set flags t (registered_after c (next_reply replies).code (slice_index_or flags t false))
flags_by flags replies t (asked.CodeOf c) = flags
flags_by flags replies t (asked.NameOf e) = flags
flags_by flags replies t asked.Threads = flags

-- what is left after a line: its thread's further replies, and which threads are registered
abbrev pub ahead_then : Ahead → ℕ → Planned → Ahead
ahead_then x t p = record {
  flags = flags_by x.flags (slice_index_or x.replies t []) t p;
  replies = slice_set x.replies t (rest_by (slice_index_or x.replies t []) p);
}

-- the line with its reply
abbrev pub line_by : List Bool → List Reply → PlanLine → ReplyLine
line_by flags replies l = record { line = l.number; thread = l.thread; word = name_of l.planned; reply = reply_by flags replies l.planned }

-- the lines' replies
abbrev pub lines_by : Ahead → List PlanLine → List ReplyLine
lines_by x [] = []
lines_by x (l ∷ ls) =
    line_by x.flags (slice_index_or x.replies l.thread []) l ∷ lines_by (ahead_then x l.thread l.planned) ls
