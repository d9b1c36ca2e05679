-- What `papi_soak` comes to: the summary of the run of a script over a unit and streams that are made out of a number. These and the
-- summary are this project's own: docs/FORMATS.md.
use Rattle.std.specs.Prelude.{◌==◌, ◌&&◌, ◌-◌, ℕ, ℤ, Bool, true, false, List, [], length, map, find, codes, slice_index, slice_index_or}
use Rattle.std.specs.Prelude.{Option, Some, None, Result, Ok}
use Rattle.std.specs.List.{range_with_len}
use Rattle.papi_base.specs.Outside.{Tape}
use Rattle.call_type.specs.declared.call_name.CallName.{CallName}
use Rattle.call_type.specs.declared.call_name.CallName.TheVariants.{Stop}
use Rattle.papi_base.specs.declared.outside.Ending.TheVariants.{End}
use Rattle.overflow_dispatch.specs.declared.handler.Note.{Note}
use Rattle.session_model.specs.declared.reply.Body.{Body}
use Rattle.session_model.specs.declared.reply.Body.TheVariants.{Values}
use Rattle.component_table.specs.Catalogs.{catalog_of}
use Rattle.thread_registry.specs.declared.runner.result.ReplyLine.{ReplyLine}
use Rattle.soak_input.specs.Script.{script_text}
use Rattle.soak_input.specs.Streams.{stream_text}
use Rattle.soak_input.specs.Summary.{summary_text}
use Rattle.soak_input.specs.Unit.{unit_text}
use Rattle.soak_input.specs.declared.limits.TheConstants.{SOAK_THREADS}
use Rattle.soak_input.specs.declared.summary.ThreadTotal.{ThreadTotal}
use Rattle.tool_words.specs.declared.soak.SoakWords.{SoakWords}
use Rattle.papi_tools.specs.Running.{GivenRun, ran_notes, ran_replies}
use Rattle.papi_tools.specs.Contents.{script_in, unit_of}
use Rattle.papi_tools.specs.Openings.{Verdict, and_then}
use Rattle.papi_tools.specs.Streams.{streams_of}
use Rattle.papi_tools.specs.Texts.{text_said}
use Rattle.papi_tools.specs.declared.refusal.Refusal.{Refusal}
use Rattle.papi_tools.specs.declared.said.Said.{Said}

-- ---- what is run

-- the stream of a thread, which ends without a fault
abbrev pub soak_tape : ℕ → ℕ → Tape
soak_tape rounds thread = record { bytes = stream_text rounds thread; ending = End }

-- the streams of the first threads
abbrev pub soak_tapes : ℕ → List Tape
soak_tapes rounds = map (soak_tape rounds) (range_with_len 0 SOAK_THREADS)

-- the unit without presets, the script and the streams, each checked as one of a file is
unfoldable pub soak_given : ℕ → Result GivenRun Refusal
soak_given rounds =
    and_then (unit_of (codes "lab.unit") unit_text) (λ tables.
    and_then (script_in (codes "soak.script") (script_text rounds)) (λ script.
    Ok (record { catalog = catalog_of tables None; script = script; streams = streams_of (soak_tapes rounds) })))

-- ---- what is said of it

-- the values that a reply has, and none if it has other results
abbrev pub values_of : Body → List ℤ
values_of (Values values) = values
values_of _ = []

-- the call is `stop`
abbrev pub is_stop : CallName → Bool
is_stop Stop = true
is_stop _ = false

-- whether this is the reply to a `stop` of the thread
abbrev pub stops : ℕ → ReplyLine → Bool
stops thread line = (line.thread == thread) && is_stop line.word

-- the values of a reply line, if there is one
abbrev pub values_at : Option ReplyLine → List ℤ
values_at None = []
values_at (Some line) = values_of line.reply.body

-- the values that the thread's `stop` gave
abbrev pub stop_values : List ReplyLine → ℕ → List ℤ
stop_values lines thread = values_at (find (stops thread) lines)

-- the values of a thread's `stop`, and how many notes it has
abbrev pub thread_total : List ReplyLine → List (List Note) → ℕ → ThreadTotal
thread_total lines notes thread = record { values = stop_values lines thread; notes = length (slice_index_or notes thread []) }

-- the same of each thread of a soak
abbrev pub thread_totals : List ReplyLine → List (List Note) → List ThreadTotal
thread_totals lines notes = map (thread_total lines notes) (range_with_len 0 SOAK_THREADS)

-- the summary of these totals and of n replies
abbrev pub summary_said : List ThreadTotal → ℕ → Said
summary_said totals replies = text_said true (summary_text totals replies)

-- what a soak comes to
unfoldable pub soaked : GivenRun → Verdict
soaked given = record { said = summary_said (thread_totals (ran_replies given) (ran_notes given)) (length (ran_replies given)); notes = ran_notes given }

-- what is given, and then the run
unfoldable pub soak_verdict : SoakWords → Result Verdict Refusal
soak_verdict words = and_then (soak_given words.rounds) (λ given. Ok (soaked given))

-- ---- by the numbers of notes

-- the same totals, by how many notes each handler had before and has after
abbrev pub total_between : List ReplyLine → List ℕ → List ℕ → ℕ → ThreadTotal
total_between lines before after thread = record { values = stop_values lines thread; notes = slice_index after thread - slice_index before thread }

-- the same of each thread of a soak, by the numbers of notes
abbrev pub totals_between : List ReplyLine → List ℕ → List ℕ → List ThreadTotal
totals_between lines before after = map (total_between lines before after) (range_with_len 0 SOAK_THREADS)
