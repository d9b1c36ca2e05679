-- What the calls from C do.
use Rattle.std.specs.Prelude.{ℕ, ℤ, ◌≡◌, ◌≢◌, ◌⊎◌, length, negsuc, IsUtf8, List, [], Option, Result, Ok, Err}
use Rattle.papi_base.specs.declared.code.Code.{Code}
use Rattle.papi_base.specs.declared.code.Code.TheVariants as papi
use Rattle.papi_base.specs.declared.native.EventRef.{EventRef}
use Rattle.papi_base.specs.Codes.{number_of}
use Rattle.component_table.specs.Catalogs.{looked_up}
use Rattle.session_model.specs.CallTypes.{Asked, Call}
use Rattle.call_type.specs.declared.call.Asked.TheVariants as asked
use Rattle.session_model.specs.declared.reply.Body.{Body}
use Rattle.session_model.specs.declared.reply.Body.TheVariants as body
use Rattle.session_model.specs.declared.reply.Reply.{Reply}
use Rattle.thread_core.specs.Following.{reply_of, values_reply}
pub use Rattle.thread_core.specs.Told.{AreGiven}
use Rattle.papi_calls.specs.Calls as Calls
use Rattle.papi_calls.specs.Calls.{Made}
use Rattle.papi_calls.specs.Codes.{coded}
use Rattle.papi_calls.specs.Libraries.{LibraryView}
use Rattle.papi_c.specs.Numbers.{AnswersNumber}
use Rattle.papi_c.specs.Placed.{IsRefused}
use Rattle.papi_c.specs.Through.{Through}

-- the call is made as the model's step has it, and its number is that of the step's code
pub record MadeWithCode (old new : LibraryView) (made : Call) (number : ℤ) : Type 0 where
  pub answer : Reply
  pub step : Made old new made answer
  pub code : number ≡ number_of answer.code

-- the same through a handle, and a shut one stays as it is: PAPI_ENOINIT
abbrev pub Called : Option LibraryView → Option LibraryView → (LibraryView → Call) → ℤ → Type 0
Called old new made number = Through old new (λ o n. MadeWithCode o n (made o) number) (number ≡ negsuc 15)

-- the name is not a text, PAPI_EINVAL, or memory is refused, PAPI_ENOMEM
abbrev pub IsUnmade : List ℕ → ℤ → Type 0
IsUnmade name number = ((number ≡ negsuc 0) × ¬ (IsUtf8 name)) ⊎ (number ≡ negsuc 1)

-- the same of a call on the event that a text names, unless it is not made
abbrev pub CalledByName : List ℕ → Option LibraryView → Option LibraryView → (Result EventRef Code → Call) → ℤ → Type 0
CalledByName name old new made number = Called old new (λ l. made (looked_up l.catalog name)) number ⊎ ((new ≡ old) × IsUnmade name number)

-- the same of a call on the event of a code
abbrev pub CalledByCode : ℕ → Option LibraryView → Option LibraryView → (Result EventRef Code → Call) → ℤ → Type 0
CalledByCode event old new made number = Called old new (λ l. made (coded l.catalog l.mentioned event)) number

-- the call is made as the model's step has it, and the number that its reply shows is given, or its code refuses one
pub record GaveNumber (old new : LibraryView) (made : Call) (shown : ℕ → Body) (number : ℤ) (before after : ℕ) : Type 0 where
  pub answer : Result ℕ Code
  pub step : Made old new made (reply_of shown answer)
  pub given : AnswersNumber answer number before after

-- the same through a handle
abbrev pub GivesNumber : Option LibraryView → Option LibraryView → Call → (ℕ → Body) → ℤ → ℕ → ℕ → Type 0
GivesNumber old new made shown number before after =
    Through old new (λ o n. GaveNumber o n made shown number before after) ((number ≡ negsuc 15) × (after ≡ before))

-- the code of a call that gives so many values, or is refused by a code
abbrev pub code_of : Result ℕ Code → Code
code_of (Ok n) = papi.Ok
code_of (Err c) = c

-- how many it gives
abbrev pub count_of : Result ℕ Code → ℕ
count_of (Ok n) = n
count_of (Err c) = 0

-- the call is made as the model's step has it: the number is that of its code, and its values are given, which are none if it is refused
pub record GaveValues (old new : LibraryView) (made : Call) (n : ℤ) (count : ℕ) (before after : List ℤ) : Type 0 where
  pub code : Code
  pub values : List ℤ
  pub step : Made old new made (values_reply code values)
  pub refused : code ≢ papi.Ok → values ≡ []
  pub number : n ≡ number_of code
  pub counted : count ≡ length values
  pub given : AreGiven values before after

-- the same through a handle, and a shut one gives nothing
abbrev pub GivesValues : Option LibraryView → Option LibraryView → Call → ℤ → ℕ → ℕ → List ℤ → List ℤ → Type 0
GivesValues old new made number counted count before after =
    Through old new (λ o n. GaveValues o n made number count before after) (IsRefused (negsuc 15) number counted count before after)

-- the code of an event is asked as the model has it, and is given, or the reply's code refuses it
pub record Coded (old new : LibraryView) (made : Asked) (number : ℤ) (before after : ℕ) : Type 0 where
  pub answer : Result ℕ Code
  pub does : Calls.Answered old new made (reply_of (λ n. body.EventCode n) answer)
  pub given : AnswersNumber answer number before after

-- the same through a handle
abbrev pub Codes : Option LibraryView → Option LibraryView → (LibraryView → Asked) → ℤ → ℕ → ℕ → Type 0
Codes old new made number before after =
    Through old new (λ o n. Coded o n (made o) number before after) ((number ≡ negsuc 15) × (after ≡ before))

-- the same of the event that a text names, unless it is not asked
abbrev pub CodesName : List ℕ → Option LibraryView → Option LibraryView → ℤ → ℕ → ℕ → Type 0
CodesName name old new number before after =
    Codes old new (λ l. asked.CodeOf (looked_up l.catalog name)) number before after
    ⊎ ((new ≡ old) × (after ≡ before) × IsUnmade name number)
