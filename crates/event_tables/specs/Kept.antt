-- What the tables of a unit keep: the limits, the forms of names, and that no name is repeated.
use Rattle.std.specs.Prelude.{⊤, ◌≡◌, ◌<◌, ◌≤◌, ◌^◌, ◌&&◌, ℕ, true, false, List, None, length, IfSome}
use Rattle.std.specs.List.{AllByRecursion}
use Rattle.std.specs.Str.{bytes_eq}
use Rattle.papi_base.specs.declared.limits.TheConstants.{LEAST_WIDTH, MOST_WIDTH}
use Rattle.table_rows.specs.Tables.{NoTwo}
use Rattle.table_rows.specs.Texts.{Text, is_empty, is_name}
use Rattle.event_tables.specs.Tables.{ComponentText, CounterText, EventText, MaskText, same_name}
use Rattle.event_tables.specs.Lines.{Line, component, counter, event, umask, umask_counters}
use Rattle.event_tables.specs.Unit.{modifier_words, within}
use Rattle.papi_base.specs.declared.limits.TheConstants.{MOST_COMPONENTS, MOST_COUNTERS}
use Rattle.event_tables.specs.declared.limits.TheConstants.{MOST_COMPONENT_EVENTS, MOST_UMASKS}

-- a counter with a name, of 16 to 48 bits
pub record IsCounter (k : CounterText) : Type 0 where
  pub named : is_name k.name ≡ true
  pub narrow : LEAST_WIDTH ≤ k.width
  pub wide : k.width ≤ MOST_WIDTH

-- a umask with a name that is not a modifier's, and bits of one byte
pub record IsMask (m : MaskText) : Type 0 where
  pub named : is_name m.name ≡ true
  pub no_modifier : AllByRecursion (λ w. same_name m.name w ≡ false) modifier_words
  pub byte : m.bits < 2 ^ 8

-- the counters of a umask are some of these
abbrev pub HasCounters : ℕ → MaskText → Type 0
HasCounters allowed m = IfSome m.counters (λ k. (0 < k) × (within k allowed ≡ true))

-- an event of a component with n counters
pub record IsEvent (counters : ℕ) (e : EventText) : Type 0 where
  pub named : is_name e.name ≡ true
  pub byte : e.select < 2 ^ 8
  pub counted : 0 < e.allowed
  pub within : e.allowed < 2 ^ counters
  pub few : length e.masks ≤ MOST_UMASKS
  pub each : AllByRecursion IsMask e.masks
  pub distinct : NoTwo (λ (a b : MaskText). same_name a.name b.name) e.masks
  pub one_default : NoTwo (λ (a b : MaskText). a.preset_choice && b.preset_choice) e.masks
  pub mask_counters : AllByRecursion (HasCounters e.allowed) e.masks

-- a component within its limits, with names and no name twice
pub record IsComponent (c : ComponentText) : Type 0 where
  pub named : is_name c.name ≡ true
  pub pmu_named : is_name c.pmu ≡ true
  pub few_counters : length c.counters ≤ MOST_COUNTERS
  pub few_events : length c.events ≤ MOST_COMPONENT_EVENTS
  pub counters : AllByRecursion IsCounter c.counters
  pub counters_distinct : NoTwo (λ (a b : CounterText). bytes_eq a.name b.name) c.counters
  pub events : AllByRecursion (IsEvent (length c.counters)) c.events
  pub events_distinct : NoTwo (λ (a b : EventText). same_name a.name b.name) c.events

-- the tables of a unit: its components within the limits, and no name twice
pub record IsTables (tables : List ComponentText) : Type 0 where
  pub few : length tables ≤ MOST_COMPONENTS
  pub each : AllByRecursion IsComponent tables
  pub names_distinct : NoTwo (λ (a b : ComponentText). same_name a.name b.name) tables
  pub pmus_distinct : NoTwo (λ (a b : ComponentText). same_name a.pmu b.pmu) tables

-- ---- what a row by itself keeps

-- the widths of a counter
abbrev pub IsWidth : ℕ → Type 0
IsWidth w = (LEAST_WIDTH ≤ w) × (w ≤ MOST_WIDTH)

-- what an EVENT row says: a name, a select code of one byte, and one counter or more
pub record IsEventLine (name : Text) (select : ℕ) (names : List Text) : Type 0 where
  pub named : is_name name ≡ true
  pub byte : select < 2 ^ 8
  pub some : is_empty names ≡ false

-- what a UMASK row says: a name, bits of one byte, and nothing yet of the rows below it
pub record IsMaskLine (m : MaskText) : Type 0 where
  pub named : is_name m.name ≡ true
  pub byte : m.bits < 2 ^ 8
  pub free : m.counters ≡ None

-- what a row says is of its form
abbrev pub IsLine : Line → Type 0
IsLine (component name pmu) = (is_name name ≡ true) × (is_name pmu ≡ true)
IsLine (counter name width fixed) = (is_name name ≡ true) × IfSome width IsWidth
IsLine (event name select names text) = IsEventLine name select names
IsLine (umask m) = IsMaskLine m
IsLine (umask_counters names) = is_empty names ≡ false
IsLine line = ⊤
