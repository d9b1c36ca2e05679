-- A library that is opened from the bytes of its files.
use Rattle.std.specs.Prelude.{ℕ, ◌≡◌, ◌==◌, IsUtf8, List, Option, Some, None, ⊤, if◌then◌else◌, length}
use Rattle.component_table.specs.Catalogs.{catalog_of}
use Rattle.event_tables.specs.Unit.{unit_fault, unit_tables}
use Rattle.papi_c.specs.declared.opening.OpenFault.{OpenFault}
use Rattle.papi_c.specs.declared.opening.OpenFault.TheVariants as fault
use Rattle.papi_calls.specs.Libraries.{IsOpened, LibraryView}
use Rattle.user_events.specs.Events.{ExtendedView}
use Rattle.user_events.specs.Rows.{extended_fault, extended_in}

-- the presets and user events for a cpu, and none if there is no text of them
abbrev pub table_of : List ℕ → List ℕ → Option ExtendedView
table_of presets cpu = if length presets == 0 then None else Some (extended_in cpu presets)

-- the cpu is a text, and no row of the unit is faulty, nor one of the presets as they are read for the cpu
pub record AreFaultless (unit presets cpu : List ℕ) : Type 0 where
  pub text : IsUtf8 cpu
  pub in_unit : unit_fault unit ≡ None
  pub in_presets : extended_fault cpu presets ≡ None

-- nothing is faulty, and the library is as before any call
pub record IsOpenedBy (unit presets cpu : List ℕ) (thread : ℕ) (stream : List ℕ) (l : LibraryView) : Type 0 where
  pub faultless : AreFaultless unit presets cpu
  pub opened : IsOpened (catalog_of (unit_tables unit) (table_of presets cpu)) thread stream l

-- this is why, unless memory is refused
abbrev pub IsWhy : Type 0 → OpenFault → Type 0
IsWhy Reason fault.Faulty = Reason
IsWhy Reason fault.Memory = ⊤
