-- What is given into an array of fixed room.
use Rattle.std.specs.Prelude.{ℕ, ℤ, ◌≡◌, ◌<◌, ◌≤◌, ◌++◌, ◌⊎◌, List, drop, length, map, negsuc, pos, unwrap_or, Option, Some, None, Result, Ok, Err}
use Rattle.papi_base.specs.Codes.{number_of}
use Rattle.papi_base.specs.declared.code.Code.{Code}
use Rattle.papi_base.specs.declared.native.EventRef.{EventRef}
use Rattle.papi_calls.specs.Calls.{Made}
use Rattle.papi_calls.specs.Codes.{event_code, map_ok}
use Rattle.papi_calls.specs.Libraries.{LibraryView}
use Rattle.call_type.specs.declared.call.Call.TheVariants as call
use Rattle.session_model.specs.declared.reply.Body.TheVariants as body
use Rattle.thread_core.specs.Following.{reply_of}

-- The items stand at the first places and what is past them stays: PAPI_OK. If there are fewer places, nothing is written: PAPI_EINVAL.
-- Both say how many items there are.
pub record ArePlaced {X : Type 0} (items : List X) (number : ℤ) (count : ℕ) (before after : List X) : Type 0 where
  pub counted : count ≡ length items
  pub placed : length items ≤ length before → (number ≡ pos 0) × (after ≡ items ++ drop (length items) before)
  pub short : length before < length items → (number ≡ negsuc 0) × (after ≡ before)

-- nothing is written, and the number says why
pub record IsRefused {X : Type 0} (why answer : ℤ) (counted count : ℕ) (before after : List X) : Type 0 where
  pub number : answer ≡ why
  pub same : count ≡ counted
  pub kept : after ≡ before

-- the items are given, or it is refused by a code
abbrev pub AnswersItems : {X : Type 0} → Result (List X) Code → ℤ → ℕ → ℕ → List X → List X → Type 0
AnswersItems (Ok items) number counted count before after = ArePlaced items number count before after
AnswersItems (Err code) number counted count before after = IsRefused (number_of code) number counted count before after

-- A text is asked of a library, and given: PAPI_ENOINIT of a shut handle, and PAPI_ENOMEM if memory is refused.
abbrev pub Spells : Option LibraryView → (LibraryView → Result (List ℕ) Code) → ℤ → ℕ → ℕ → List ℕ → List ℕ → Type 0
Spells None asked number counted count before after = IsRefused (negsuc 15) number counted count before after
Spells (Some l) asked number counted count before after =
    AnswersItems (asked l) number counted count before after ⊎ IsRefused (negsuc 1) number counted count before after

-- the codes of some events, and 0 for a native event that was not mentioned
abbrev pub codes_of : LibraryView → List EventRef → List ℕ
codes_of l events = map (λ e. unwrap_or (event_code l.catalog l.mentioned e) 0) events

-- The events of a set are listed as the model's step has it, and their codes are given.
pub record Listed (l : LibraryView) (set : ℕ) (number : ℤ) (counted count : ℕ) (before after : List ℕ) : Type 0 where
  pub events : Result (List EventRef) Code
  pub step : Made l l (call.ListEvents set) (reply_of (λ es. body.Events es) events)
  pub given : AnswersItems (map_ok (codes_of l) events) number counted count before after

-- the same through a handle
abbrev pub Lists : Option LibraryView → ℕ → ℤ → ℕ → ℕ → List ℕ → List ℕ → Type 0
Lists None set number counted count before after = IsRefused (negsuc 15) number counted count before after
Lists (Some l) set number counted count before after = Listed l set number counted count before after
