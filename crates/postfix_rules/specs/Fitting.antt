-- Events that fit a unit's counters and a book of presets: PAPI_add_event(3), PAPI_event_name_to_code(3).
use Rattle.std.specs.Prelude.{ℕ, ◌≡◌, ◌<◌, ◌^◌, ◌⊎◌, List, [], All, IsSomeAnd, length, Option, Some, None, Result, Ok, Err, slice_get, unwrap_or, ⊤}
use Rattle.std.specs.Option.{ForSome}
use Rattle.papi_base.specs.declared.code.Code.{Code}
use Rattle.papi_base.specs.declared.code.Code.TheVariants.{Enoevnt, Eattr, Ecombo}
use Rattle.papi_base.specs.declared.native.Native.{Native}
use Rattle.papi_base.specs.declared.native.EventRef.{EventRef}
use Rattle.papi_base.specs.declared.native.EventRef.TheVariants as event
use Rattle.postfix_rules.specs.Rules.{IsDerived}
use Rattle.postfix_rules.specs.Presets.{Book, entry}

-- for each component the widths of its counters
abbrev pub Widths : Type 0
Widths = List (List ℕ)

-- the widths of a component's counters, and none if there is no component
abbrev pub widths_at : Widths → Option ℕ → List ℕ
widths_at shape None = []
widths_at shape (Some comp) = unwrap_or (slice_get shape comp) []

-- the native's component is one of the shape's, and it is allowed only counters of it
pub record Fits (shape : Widths) (n : Native) : Type 0 where
  pub has_component : n.comp < length shape
  pub has_counters : n.allowed < 2 ^ length (widths_at shape (Some n.comp))

-- each native of each derived event of the book fits the counters
pub record BookFits (shape : Widths) (book : Book) : Type 0 where
  pub each : All (λ place. ForSome place (λ d. All (Fits shape) d.natives)) book

-- a native event fits the counters; the natives of a preset are those of the book
abbrev pub EventFits : Widths → EventRef → Type 0
EventFits shape (event.Native n) = Fits shape n
EventFits shape (event.Preset row) = ⊤

-- a preset is one that the book holds
abbrev pub IsHeld : Book → EventRef → Type 0
IsHeld book (event.Native n) = ⊤
IsHeld book (event.Preset row) = IsSomeAnd (entry book row) IsDerived

-- a code with which an event's text is refused: PAPI_event_name_to_code(3)
abbrev pub IsNameCode : Code → Type 0
IsNameCode code = (code ≡ Enoevnt) ⊎ (code ≡ Eattr) ⊎ (code ≡ Ecombo)

-- an event's text as it was looked up: held by the book and fitting the shape, or refused with a code of names
abbrev pub IsNamed : Book → Widths → Result EventRef Code → Type 0
IsNamed book shape (Ok e) = IsHeld book e × EventFits shape e
IsNamed book shape (Err code) = IsNameCode code
