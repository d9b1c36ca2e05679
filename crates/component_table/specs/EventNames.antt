-- What events are called: PAPI_event_code_to_name(3).
use Rattle.std.specs.Prelude.{ℕ, List}
use Rattle.papi_base.specs.declared.native.EventRef.{EventRef}
use Rattle.papi_base.specs.declared.native.EventRef.TheVariants as event
use Rattle.component_table.specs.Catalogs.{CatalogView, row_name}
use Rattle.name_encoder.specs.Canonical.{canonical}

-- a preset's symbol, a user event's name, or a native event's canonical name
abbrev pub event_name : CatalogView → EventRef → List ℕ
event_name catalog (event.Preset row) = row_name catalog row
event_name catalog (event.Native native) = canonical catalog.tables native
