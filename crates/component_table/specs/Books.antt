-- Which presets and user events are available over a unit, and what is derived there: PAPI_presets(3), papi_events.csv.
use Rattle.std.specs.Prelude.{◌==◌, ◌+◌, ◌++◌, ℕ, Bool, true, false, List, [], ◌∷◌, map, Option, Some, None, Result, Ok, Err, if◌then◌else◌, is_some}
use Rattle.std.specs.List.{list_all}
use Rattle.event_tables.specs.Tables.{ComponentText}
use Rattle.name_encoder.specs.declared.fault.NameFault.{NameFault}
use Rattle.name_encoder.specs.Names.{names}
use Rattle.papi_base.specs.declared.native.Native.{Native}
use Rattle.postfix_rules.specs.declared.rule.Rule.{Rule}
use Rattle.postfix_rules.specs.declared.rule.Rule.TheVariants as rule
use Rattle.postfix_rules.specs.Faults.{FormulaView}
use Rattle.postfix_rules.specs.Presets.{Book, entry}
use Rattle.postfix_rules.specs.Rules.{DerivedView}
use Rattle.preset_csv.specs.Defs.{DefView}
use Rattle.preset_csv.specs.declared.entry.Entry.{Entry}
use Rattle.preset_csv.specs.declared.entry.Entry.TheVariants as row
use Rattle.preset_csv.specs.declared.kind.Kind.{Kind}
use Rattle.preset_csv.specs.declared.kind.Kind.TheVariants as kind
use Rattle.preset_csv.specs.Symbols.{preset_count}
use Rattle.table_rows.specs.Texts.{Text}
use Rattle.user_events.specs.Events.{EventView, ExtendedView}

-- one more native before some, if its text names one and theirs do
abbrev pub with_first : Result Native NameFault → Option (List Native) → Option (List Native)
with_first (Ok native) (Some natives) = Some (native ∷ natives)
with_first first natives = None

-- the native events that some texts name, in their order, if each text names one
unfoldable pub natives_named : List ComponentText → List Text → Option (List Native)
natives_named tables [] = Some []
natives_named tables (text ∷ texts) = with_first (names tables text) (natives_named tables texts)

-- they are of one component
abbrev pub are_together : List Native → Bool
are_together [] = true
are_together (first ∷ others) = list_all (λ n. n.comp == first.comp) others

-- how the value of a preset of this kind comes from its counts; the formula stands if the kind is `Postfix`
abbrev pub rule_of : Kind → Option FormulaView → Rule
rule_of kind.Add formula = rule.Sum
rule_of kind.Sub formula = rule.Sub
rule_of kind.Postfix (Some formula) = rule.Postfix formula
rule_of k formula = rule.Plain

-- the kind of the events that have a rule
abbrev pub kind_of : Rule → Kind
kind_of rule.Plain = kind.NotDerived
kind_of rule.Sum = kind.Add
kind_of rule.Sub = kind.Sub
kind_of (rule.Postfix formula) = kind.Postfix

-- what is derived of natives of one component; an event set counts on one alone, so of others nothing is derived
abbrev pub derived_if : Bool → List Native → Rule → Option DerivedView
derived_if together natives r = if together then Some (record { natives = natives; rule = r }) else None

-- what is derived if each text names a native event
abbrev pub derived_by : Option (List Native) → Rule → Option DerivedView
derived_by None r = None
derived_by (Some natives) r = derived_if (are_together natives) natives r

-- A computed preset is available if each of its texts names a native event of the unit, all of one component.
abbrev pub derived_of : List ComponentText → DefView → Option DerivedView
derived_of tables d = derived_by (natives_named tables d.natives) (rule_of d.kind d.formula)

-- what is derived by an entry of a preset file, if the event is available
abbrev pub derived_from : List ComponentText → Entry → Option DerivedView
derived_from tables (row.Def d) = derived_of tables d
derived_from tables e = None

-- the book of the events that are available over a unit, in the order of these entries
abbrev pub book_of : List ComponentText → List Entry → Book
book_of tables rows = map (derived_from tables) rows

-- a row for each preset in the order of the preset table, and below them one for each user event in the order of the ranks
abbrev pub rows_in : ExtendedView → List Entry
rows_in x = x.presets.rows ++ map (λ e. e.entry) x.events

-- the event in a row is available
abbrev pub is_available : Book → ℕ → Bool
is_available book r = is_some (entry book r)

-- the value is computed, and is not the count of one native event
abbrev pub is_derived_rule : Rule → Bool
is_derived_rule rule.Plain = false
is_derived_rule r = true

-- papi_avail(1) lists the event as derived: it is available, and its value is computed
abbrev pub is_derived_event : Option DerivedView → Bool
is_derived_event None = false
is_derived_event (Some d) = is_derived_rule d.rule

-- the event in a row is available, and is more than the count of one native event
abbrev pub is_derived : Book → ℕ → Bool
is_derived book r = is_derived_event (entry book r)

-- the entries from a row on, with a missing one in place of each that is not available
unfoldable pub available_from : Book → ℕ → List Entry → List Entry
available_from book r [] = []
available_from book r (e ∷ rest) = (if is_available book r then e else row.Missing) ∷ available_from book (r + 1) rest

-- a user event, kept if it is available
abbrev pub kept_if : Bool → EventView → List EventView
kept_if available e = if available then e ∷ [] else []

-- the user events from a row on that are available
unfoldable pub events_from : Book → ℕ → List EventView → List EventView
events_from book r [] = []
events_from book r (e ∷ rest) = kept_if (is_available book r) e ++ events_from book (r + 1) rest

-- a table of presets and user events with its available ones alone
abbrev pub available_only : Book → ExtendedView → ExtendedView
available_only book x = record {
  presets = record { cpu = x.presets.cpu; rows = available_from book 0 x.presets.rows };
  events = events_from book preset_count x.events;
}
