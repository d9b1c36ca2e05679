-- The calls of a script, their names and words, in the order of the table of calls: this project's own format, docs/FORMATS.md.
use Rattle.std.specs.Prelude.{ℕ, List, [], ◌∷◌, Option, Some, None, Result, Err, if◌then◌else◌}
use Rattle.std.specs.Str.{bytes_eq}
use Rattle.call_type.specs.CallNames.{word_of}
use Rattle.call_type.specs.declared.call.Asked.{Asked}
use Rattle.call_type.specs.declared.call.Asked.TheVariants as asked
use Rattle.call_type.specs.declared.call.Call.TheVariants as call
use Rattle.call_type.specs.declared.call_name.CallName.{CallName}
use Rattle.call_type.specs.declared.call_name.CallName.TheVariants as name
use Rattle.table_rows.specs.Texts.{Text}
use Rattle.script_lines.specs.declared.fault.ScriptCause.{ScriptCause}
use Rattle.script_lines.specs.declared.fault.ScriptCause.TheVariants.{UnknownCall}
use Rattle.script_lines.specs.Answers.{made_of}
use Rattle.script_lines.specs.Arguments.{nothing, one_code, one_event, one_number, set_and_event, set_event_and_threshold, two_numbers}

-- what a line asks for, with its event as it is written
abbrev pub Written : Type 0
Written = Asked Text Text ℕ

-- what arguments a call has, and the call that they make
pub data Form : Type 0 where
  Nothing : Written → Form
  Number : (ℕ → Written) → Form
  TwoNumbers : (ℕ → ℕ → Written) → Form
  SetAndEvent : (ℕ → Text → Written) → Form
  SetEventAndThreshold : (ℕ → Text → ℕ → Written) → Form
  Event : (Text → Written) → Form
  Code : (ℕ → Written) → Form

-- a call's name, and its form
pub record CallRow : Type 0 where
  pub name : CallName
  pub form : Form

-- a call with the form of its arguments
abbrev pub row : CallName → Form → CallRow
row name form = record { name = name; form = form }

-- all calls with their forms, in the order of the table of calls
unfoldable pub call_rows : List CallRow
call_rows =
    -- tools/make_calls: begin
    row name.Register (Nothing (asked.Call call.Register))
    ∷ row name.Unregister (Nothing (asked.Call call.Unregister))
    ∷ row name.Threads (Nothing asked.Threads)
    ∷ row name.Create (Nothing (asked.Call call.Create))
    ∷ row name.Destroy (Number (λ set. asked.Call (call.Destroy set)))
    ∷ row name.Cleanup (Number (λ set. asked.Call (call.Cleanup set)))
    ∷ row name.Add (SetAndEvent (λ set e. asked.Call (call.Add set e)))
    ∷ row name.Remove (SetAndEvent (λ set e. asked.Call (call.Remove set e)))
    ∷ row name.Component (TwoNumbers (λ set comp. asked.Call (call.AssignComponent set comp)))
    ∷ row name.Domain (TwoNumbers (λ set bits. asked.Call (call.SetDomain set bits)))
    ∷ row name.Multiplex (TwoNumbers (λ set slice. asked.Call (call.SetMultiplex set slice)))
    ∷ row name.Overflow (SetEventAndThreshold (λ set e t. asked.Call (call.Overflow set e t)))
    ∷ row name.Start (Number (λ set. asked.Call (call.Start set)))
    ∷ row name.Stop (Number (λ set. asked.Call (call.Stop set)))
    ∷ row name.Read (Number (λ set. asked.Call (call.Read set)))
    ∷ row name.Accum (Number (λ set. asked.Call (call.Accum set)))
    ∷ row name.Reset (Number (λ set. asked.Call (call.Reset set)))
    ∷ row name.State (Number (λ set. asked.Call (call.State set)))
    ∷ row name.Events (Number (λ set. asked.Call (call.ListEvents set)))
    ∷ row name.Assign (Number (λ set. asked.Call (call.Assign set)))
    ∷ row name.Raw (TwoNumbers (λ set c. asked.Call (call.Raw set c)))
    ∷ row name.Run (Number (λ n. asked.Call (call.Run n)))
    ∷ row name.Code (Event (λ e. asked.CodeOf e))
    ∷ row name.Name (Code (λ code. asked.NameOf code))
    ∷ []
    -- tools/make_calls: end

-- the form of the call that a word names, if it names one
abbrev pub form_of : Text → List CallRow → Option Form
form_of word [] = None
form_of word (row ∷ rows) = if bytes_eq (word_of row.name) word then Some row.form else form_of word rows

-- a form that takes no event
abbrev pub TakesNoEvent : Option Form → Type 0
TakesNoEvent (Some (SetAndEvent make)) = ⊥
TakesNoEvent (Some (SetEventAndThreshold make)) = ⊥
TakesNoEvent (Some (Event make)) = ⊥
TakesNoEvent _ = Unit {0}

-- the call of a form with its arguments
abbrev pub call_by : Option Form → List Text → Result Written ScriptCause
call_by None arguments = Err UnknownCall
call_by (Some (Nothing call)) arguments = made_of (λ none. call) (nothing arguments)
call_by (Some (Number make)) arguments = made_of make (one_number arguments)
call_by (Some (TwoNumbers make)) arguments = made_of (λ p. make p.0 p.1) (two_numbers arguments)
call_by (Some (SetAndEvent make)) arguments = made_of (λ p. make p.0 p.1) (set_and_event arguments)
call_by (Some (SetEventAndThreshold make)) arguments = made_of (λ p. make p.0 p.1 p.2) (set_event_and_threshold arguments)
call_by (Some (Event make)) arguments = made_of make (one_event arguments)
call_by (Some (Code make)) arguments = made_of make (one_code arguments)

-- the call of a word with these arguments, or the cause of its refusal
abbrev pub call_of : Text → List Text → Result Written ScriptCause
call_of word arguments = call_by (form_of word call_rows) arguments
