-- What is said of the marks that runs met, thread by thread: this project's own, docs/FORMATS.md.
use Rattle.std.specs.Prelude.{◌+◌, ℕ, Bool, true, false, List, [], ◌∷◌, ◌++◌, codes, Option, Some, None, if◌then◌else◌}
use Rattle.std.specs.List.{list_any}
use Rattle.std.specs.Fmt.{decimal}
use Rattle.papi_base.specs.LineCauses.{cause_text}
use Rattle.session_model.specs.declared.reply.Ended.{Ended}
use Rattle.session_model.specs.declared.reply.Ended.TheVariants.{Going, Bad, Fault}
use Rattle.papi_tools.specs.declared.said.Said.{Said}
use Rattle.papi_tools.specs.declared.status.Outcome.{Outcome}
use Rattle.papi_tools.specs.declared.status.Outcome.TheVariants as outcome

-- the mark is a read that failed
abbrev pub is_fault : Option Ended → Bool
is_fault (Some Fault) = true
is_fault m = false

-- the mark is a bad line
abbrev pub is_bad : Option Ended → Bool
is_bad (Some (Bad line cause)) = true
is_bad m = false

-- how a call ends whose runs met these marks: a fault takes precedence over a bad line
abbrev pub outcome_at : List (Option Ended) → Outcome
outcome_at marks =
    if list_any is_fault marks then outcome.ReadFault
    else if list_any is_bad marks then outcome.Refused
    else outcome.Whole

-- the line on standard error of a thread's mark
abbrev pub mark_line : ℕ → Option Ended → List ℕ
mark_line t (Some (Bad line cause)) =
    codes "papi: stream " ++ (decimal t ++ (codes ": line " ++ (decimal line ++ (codes ": " ++ (cause_text cause ++ codes "\n")))))
mark_line t (Some Fault) = codes "papi: stream " ++ (decimal t ++ codes ": read failed\n")
mark_line t (Some Going) = []
mark_line t None = []

-- the lines of these marks, of which the first is that of this thread
abbrev pub mark_lines : ℕ → List (Option Ended) → List ℕ
mark_lines t [] = []
mark_lines t (m ∷ ms) = mark_line t m ++ mark_lines (t + 1) ms

-- what is said of a run that met these marks: a text, and the lines of the marks
abbrev pub marked_said : List (Option Ended) → List ℕ → Said
marked_said marks text = record { outcome = outcome_at marks; out = text; err = mark_lines 0 marks }
