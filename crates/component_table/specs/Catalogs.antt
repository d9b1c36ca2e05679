-- The events of a unit: presets by symbols, PAPI_presets(3), user events by names, papi_events.csv, and native events by names, libpfm4(3).
use Rattle.std.specs.Prelude.{◌≡◌, ◌≤◌, ◌+◌, ◌-◌, ℕ, true, Bool, List, [], Option, None, Some, Result, Ok, Err, if◌then◌else◌}
use Rattle.std.specs.Prelude.{codes, get_or, is_some, length, nat_eq, nat_lt, position}
use Rattle.std.specs.List.{AllByRecursion, starts_with}
use Rattle.std.specs.Option.{option_map}
use Rattle.std.specs.Str.{bytes_eq}
use Rattle.papi_base.specs.declared.code.Code.{Code}
use Rattle.papi_base.specs.declared.code.Code.TheVariants.{Enoevnt}
use Rattle.papi_base.specs.declared.native.EventRef.{EventRef}
use Rattle.papi_base.specs.declared.native.EventRef.TheVariants as event
use Rattle.papi_base.specs.declared.limits.TheConstants.{FIRST_USER_EVENT_CODE}
use Rattle.papi_base.specs.declared.native.Native.{Native}
use Rattle.event_tables.specs.Tables.{ComponentText}
pub use Rattle.event_tables.specs.Tables.{shape_of}
use Rattle.name_encoder.specs.declared.fault.NameFault.{NameFault}
use Rattle.name_encoder.specs.Names.{fault_code, names}
use Rattle.postfix_rules.specs.Fitting.{BookFits}
use Rattle.postfix_rules.specs.Presets.{Book, entry}
use Rattle.component_table.specs.Books.{book_of, rows_in}
use Rattle.preset_csv.specs.Symbols.{code_at, preset_count, row_of, symbol_at}
use Rattle.table_rows.specs.Texts.{Text}
use Rattle.user_events.specs.Events.{Distinct, ExtendedView, names_of}
use Rattle.user_events.specs.Names.{is_event_name}
use Rattle.user_events.specs.declared.event.TheConstants.{MOST_USER_EVENTS}

-- A unit's tables; what is derived in each row, the presets' rows first and then those of the user events; and the names of the user events in
-- the order of their ranks.
pub record CatalogView : Type 0 where
  pub tables : List ComponentText
  pub book : Book
  pub names : List Text

-- the catalog of a unit, with the presets and user events for a cpu or without any
abbrev pub catalog_of : List ComponentText → Option ExtendedView → CatalogView
catalog_of tables None = record { tables = tables; book = []; names = [] }
catalog_of tables (Some x) = record { tables = tables; book = book_of tables (rows_in x); names = names_of x.events }

-- The book fits the counters. The user events' names are as many as there may be, have their form and differ pairwise.
pub record IsCatalog (c : CatalogView) : Type 0 where
  pub fits : BookFits (shape_of c.tables) c.book
  pub few : length c.names ≤ MOST_USER_EVENTS
  pub each : AllByRecursion (λ n. is_event_name n ≡ true) c.names
  pub distinct : Distinct c.names

-- ---- the rows: one for each preset, and one for each user event

-- how many rows the catalog has
abbrev pub row_count : CatalogView → ℕ
row_count catalog = preset_count + length catalog.names

-- a preset's symbol, or a user event's name
abbrev pub row_name : CatalogView → ℕ → Text
row_name catalog row = if nat_lt row preset_count then symbol_at row else get_or catalog.names (row - preset_count) []

-- a preset's code, or FIRST_USER_EVENT_CODE and the rank of a user event
abbrev pub code_of_row : ℕ → ℕ
code_of_row row = if nat_lt row preset_count then code_at row else FIRST_USER_EVENT_CODE + (row - preset_count)

-- a text that begins as a preset's symbol does, which no name of a user event does
abbrev pub is_symbol : Text → Bool
is_symbol text = starts_with nat_eq text (codes "PAPI_")

-- the row of a user event's name, compared exactly
abbrev pub row_of_name : List Text → Text → Option ℕ
row_of_name names text = option_map (λ rank. preset_count + rank) (position (λ n. bytes_eq text n) names)

-- the row whose symbol or name is exactly this text
abbrev pub row_named : CatalogView → Text → Option ℕ
row_named catalog text = if is_symbol text then row_of text else row_of_name catalog.names text

-- ---- looking up

-- a preset or user event by its row; one that is not available is refused with ENOEVNT: PAPI_add_event(3)
abbrev pub preset_if : Bool → ℕ → Result EventRef Code
preset_if available row = if available then Ok (event.Preset row) else Err Enoevnt

-- the event in a row, if it is available
abbrev pub preset_looked_up : Book → Option ℕ → Result EventRef Code
preset_looked_up book None = Err Enoevnt
preset_looked_up book (Some row) = preset_if (is_some (entry book row)) row

-- the native event that a text names, or the code for what is wrong with the text
abbrev pub native_looked_up : Result Native NameFault → Result EventRef Code
native_looked_up (Ok native) = Ok (event.Native native)
native_looked_up (Err fault) = Err (fault_code fault)

-- the user event in this row, if it is available; else the native event of the text
abbrev pub other_looked_up : CatalogView → Text → Option ℕ → Result EventRef Code
other_looked_up catalog text (Some row) = preset_looked_up catalog.book (Some row)
other_looked_up catalog text None = native_looked_up (names catalog.tables text)

-- The event that a text names, or the code that refuses it. A text that begins as a symbol is a preset, any other that is a user event's name is
-- that event, and any other is a native event.
abbrev pub looked_up : CatalogView → List ℕ → Result EventRef Code
looked_up catalog text = if is_symbol text then preset_looked_up catalog.book (row_of text) else other_looked_up catalog text (row_of_name catalog.names text)
