-- The codes of events, as a run gives them to all its threads: PAPI_event_name_to_code(3).
use Rattle.std.specs.Prelude.{ℕ, List, Option, Some, None, if◌then◌else◌, map}
use Rattle.std.specs.List.{range_with_len}
use Rattle.papi_base.specs.declared.native.Native.{Native}
use Rattle.postfix_rules.specs.Sameness.{among}
use Rattle.postfix_rules.specs.NativeCodes.{native_code}
use Rattle.component_table.specs.Catalogs.{CatalogView, code_of_row, row_count}

-- the codes of the catalog's rows: those of the preset table, and from FIRST_USER_EVENT_CODE on those of the user events by their ranks
unfoldable pub row_codes : CatalogView → List ℕ
row_codes catalog = map code_of_row (range_with_len 0 (row_count catalog))

-- the code of a native event, if it is mentioned
abbrev pub code_in : List Native → Native → Option ℕ
code_in mentioned n = if among n mentioned then Some (native_code mentioned n) else None
