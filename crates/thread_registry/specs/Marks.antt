-- The marks that runs met, thread by thread.
use Rattle.std.specs.Prelude.{◌==◌, ℕ, List, map, filter, Option}
use Rattle.std.specs.List.{range_with_len}
use Rattle.session_model.specs.declared.reply.Ended.{Ended}
use Rattle.session_model.specs.World.{met_mark}
use Rattle.thread_registry.specs.declared.runner.result.ReplyLine.{ReplyLine}
use Rattle.papi_base.specs.declared.limits.TheConstants.{THREADS}

-- the mark that a run of a thread met, if one did
unfoldable pub mark_at : List ReplyLine → ℕ → Option Ended
mark_at lines t = met_mark (map (λ l. l.reply) (filter (λ l. l.thread == t) lines))

-- the marks of all threads
unfoldable pub marks_in : List ReplyLine → List (Option Ended)
marks_in lines = map (mark_at lines) (range_with_len 0 THREADS)
