-- What the calls ask of the book, the shape and their own arguments: PAPI_add_event(3), PAPI_overflow(3).
use Rattle.std.specs.Prelude.{List, All, Option, ⊤}
use Rattle.std.specs.Option.{ForSome}
use Rattle.postfix_rules.specs.Fitting.{IsNamed, Widths}
use Rattle.postfix_rules.specs.Presets.{Book}
use Rattle.event_sets.specs.Agreement.{Agrees}
use Rattle.session_model.specs.CallTypes.{Call}
use Rattle.call_type.specs.declared.call.Call.TheVariants as call
use Rattle.session_model.specs.Faces.{Face}

-- the call's event is named
abbrev pub IsGood : Book → Widths → Call → Type 0
IsGood book shape (call.Add k e) = IsNamed book shape e
IsGood book shape (call.Remove k e) = IsNamed book shape e
IsGood book shape (call.Overflow k e t) = IsNamed book shape e
IsGood book shape call = ⊤

-- each set agrees with the book
pub record AllAgree (book : Book) (faces : List (Option Face)) : Type 0 where
  pub each : All (λ place. ForSome place (λ f. Agrees book f.set)) faces
