-- What is said by a tool that looks at files alone: its text, which says yes or no.
use Rattle.std.specs.Prelude.{ℕ, Bool, List, [], if◌then◌else◌}
use Rattle.papi_tools.specs.declared.said.Said.{Said}
use Rattle.papi_tools.specs.declared.status.Outcome.{Outcome}
use Rattle.papi_tools.specs.declared.status.Outcome.TheVariants.{Whole, No}

-- yes is a whole output, no is status 1
abbrev pub answer_outcome : Bool → Outcome
answer_outcome is_yes = if is_yes then Whole else No

-- a text on standard output that says yes or no, and nothing on standard error
abbrev pub text_said : Bool → List ℕ → Said
text_said is_yes text = record { outcome = answer_outcome is_yes; out = text; err = [] }
