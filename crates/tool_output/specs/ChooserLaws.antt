-- What is said of a set at rest is what the table of all refusals says of it: PAPI_add_event(3).
use Rattle.std.specs.Prelude.{◌≡◌, ℕ, Bool, false, List, Ok, Option, Some}
use Rattle.event_sets.specs.Adding.{add_refusal}
use Rattle.event_sets.specs.AtRest.{Widths}
use Rattle.papi_base.specs.declared.native.EventRef.{EventRef}
use Rattle.postfix_rules.specs.Presets.{Book}
use Rattle.session_model.specs.Faces.{Face, at}
use Rattle.session_model.specs.Refusals.{refusal_of}
use Rattle.call_type.specs.declared.call.Call.TheVariants as call

-- a call of `add` on a set that does not run is refused as the set itself refuses the event
abbrev pub RefusesAsAdd : Type 0
RefusesAsAdd =
    (book : Book) (shape : Widths) (registered : Bool) (faces : List (Option Face)) (k : ℕ) (e : EventRef) (f : Face)
    → at faces k ≡ Some f → f.running ≡ false
    → refusal_of book shape registered faces (call.Add k (Ok e)) ≡ add_refusal book e f.set
