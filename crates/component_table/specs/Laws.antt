-- The laws of available presets: PAPI_query_event(3), papi_events.csv.
use Rattle.std.specs.Prelude.{◌≡◌, ◌↔◌, ℕ, true, List, map, All, slice_get, Some, Result, Ok}
use Rattle.event_tables.specs.Tables.{ComponentText}
use Rattle.name_encoder.specs.declared.fault.NameFault.{NameFault}
use Rattle.name_encoder.specs.Names.{names}
use Rattle.papi_base.specs.declared.native.Native.{Native}
use Rattle.preset_csv.specs.Defs.{DefView, IsDef}
use Rattle.preset_csv.specs.declared.entry.Entry.{Entry}
use Rattle.preset_csv.specs.declared.entry.Entry.TheVariants as row
use Rattle.component_table.specs.Books.{book_of, is_available, kind_of, rule_of}

-- what a preset's text gives if it names this native event
abbrev pub named : Native → Result Native NameFault
named n = Ok n

-- The preset in a row is computed, its texts name native events of the unit, and these are of one component.
pub record Available (tables : List ComponentText) (rows : List Entry) (r : ℕ) : Type 0 where
  pub def : DefView
  pub natives : List Native
  pub component : ℕ
  pub here : slice_get rows r ≡ Some (row.Def def)
  pub texts_name : map (names tables) def.natives ≡ map named natives
  pub together : All (λ n. n.comp ≡ component) natives

-- a preset is available exactly if its texts name native events of the unit that are of one component
abbrev pub ExactlyAvailable : Type 0
ExactlyAvailable = (tables : List ComponentText) (rows : List Entry) (r : ℕ) → (is_available (book_of tables rows) r ≡ true) ↔ Available tables rows r

-- the kind of what a preset derives is the one that its file states
abbrev pub KeepsKind : Type 0
KeepsKind = (def : DefView) → IsDef def → kind_of (rule_of def.kind def.formula) ≡ def.kind
