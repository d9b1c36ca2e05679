-- Events by their codes: PAPI_event_code_to_name(3), PAPI_add_event(3).
use Rattle.std.specs.Prelude.{ℕ, ◌==◌, List, Option, Some, None, Result, Ok, Err, true, ◌≡◌, ⊤, if◌then◌else◌, nat_lt, position, slice_get, unwrap_or}
use Rattle.papi_base.specs.declared.code.Code.{Code}
use Rattle.papi_base.specs.declared.code.Code.TheVariants.{Enoevnt}
use Rattle.papi_base.specs.declared.native.EventRef.{EventRef}
use Rattle.papi_base.specs.declared.native.EventRef.TheVariants as event
use Rattle.papi_base.specs.declared.native.Native.{Native}
use Rattle.component_table.specs.Codes.{code_in, row_codes}
use Rattle.component_table.specs.Catalogs.{CatalogView, code_of_row, preset_looked_up, row_count, shape_of}
use Rattle.postfix_rules.specs.NativeCodes.{native_named}
use Rattle.postfix_rules.specs.Presets.{Book}
use Rattle.postfix_rules.specs.Sameness.{among}
use Rattle.session_model.specs.World.{Setting}

-- the presets and user events, their codes, and the counters
abbrev pub setting_of : CatalogView → Setting
setting_of catalog = record { book = catalog.book; codes = row_codes catalog; shape = shape_of catalog.tables }

-- the event in a row, or else a native
abbrev pub event_at : Option ℕ → Option Native → Result EventRef Code
event_at (Some row) native = Ok (event.Preset row)
event_at None (Some n) = Ok (event.Native n)
event_at None None = Err Enoevnt

-- the event of a code: a preset, a user event, or a native that was mentioned
abbrev pub event_coded : CatalogView → List Native → ℕ → Result EventRef Code
event_coded catalog mentioned code = event_at (position (λ x. x == code) (row_codes catalog)) (native_named mentioned code)

-- the code of an event: that of its row, and a native event has one if it was mentioned
abbrev pub event_code : CatalogView → List Native → EventRef → Option ℕ
event_code catalog mentioned (event.Preset row) = Some (unwrap_or (slice_get (row_codes catalog) row) 0)
event_code catalog mentioned (event.Native n) = code_in mentioned n

-- the code in a row of the catalog
abbrev pub code_in_row : CatalogView → ℕ → Option ℕ
code_in_row catalog row = if nat_lt row (row_count catalog) then Some (code_of_row row) else None

-- the event in a row only if it is available
abbrev pub where_held : Book → Result EventRef Code → Result EventRef Code
where_held book (Ok (event.Preset row)) = preset_looked_up book (Some row)
where_held book (Ok (event.Native n)) = Ok (event.Native n)
where_held book (Err code) = Err code

-- the event of a code, as calls on a set take it
abbrev pub coded : CatalogView → List Native → ℕ → Result EventRef Code
coded catalog mentioned code = where_held catalog.book (event_coded catalog mentioned code)

-- a native event is one that was mentioned
abbrev pub IsKnown : List Native → EventRef → Type 0
IsKnown mentioned (event.Native n) = among n mentioned ≡ true
IsKnown mentioned (event.Preset row) = ⊤

-- what is given, by this
abbrev pub map_ok : {X Y : Type 0} → (X → Y) → Result X Code → Result Y Code
map_ok f (Ok x) = Ok (f x)
map_ok f (Err code) = Err code
