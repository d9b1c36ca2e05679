-- Books of presets, the native events of events, and their values: PAPI_add_event(3), PAPI_read(3).
use Rattle.std.specs.Prelude.{ℕ, ℤ, pos, List, [], ◌∷◌, Option, None, slice_get, unwrap_or, map}
use Rattle.std.specs.Option.{option_map, option_map_or}
use Rattle.papi_base.specs.declared.native.Native.{Native}
use Rattle.papi_base.specs.declared.native.EventRef.{EventRef}
use Rattle.papi_base.specs.declared.native.EventRef.TheVariants as event
use Rattle.postfix_rules.specs.declared.rule.Rule.{Rule}
use Rattle.postfix_rules.specs.declared.rule.Rule.TheVariants as rule
use Rattle.postfix_rules.specs.Rules.{DerivedView, rule_value}
use Rattle.postfix_rules.specs.Sameness.{joined_by}

-- a book of presets: under each row what it derives, if it is available
abbrev pub Book : Type 0
Book = List (Option DerivedView)

-- what the book has under a row
abbrev pub entry : Book → ℕ → Option DerivedView
entry book row = unwrap_or (slice_get book row) None

-- the natives of an event, in the preset's order
abbrev pub natives_of_event : Book → EventRef → List Native
natives_of_event book (event.Native n) = n ∷ []
natives_of_event book (event.Preset row) = option_map_or (λ d. d.natives) (entry book row) []

-- the rule of an event; a native's is its own count
abbrev pub rule_of_event : Book → EventRef → Rule
rule_of_event book (event.Native n) = rule.Plain
rule_of_event book (event.Preset row) = option_map_or (λ d. d.rule) (entry book row) rule.Plain

-- the first native of an event
abbrev pub lead : Book → EventRef → Option Native
lead book e = slice_get (natives_of_event book e) 0

-- the component of an event is that of its first native
abbrev pub component_of_event : Book → EventRef → Option ℕ
component_of_event book e = option_map (λ n. n.comp) (lead book e)

-- the value of an event, if each native's count is given
abbrev pub event_value : Book → (Native → ℕ) → EventRef → ℤ
event_value book count e = rule_value (rule_of_event book e) (map (λ n. pos (count n)) (natives_of_event book e))

-- the natives of some events after those seen, each once
abbrev pub natives_after : Book → List Native → List EventRef → List Native
natives_after book seen [] = seen
natives_after book seen (e ∷ es) = natives_after book (joined_by seen (natives_of_event book e)) es

-- the natives of the events in order, without later repeats
abbrev pub natives_of : Book → List EventRef → List Native
natives_of book events = natives_after book [] events
