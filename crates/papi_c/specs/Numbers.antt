-- The numbers that are asked of a library: PAPI_get_event_component(3), PAPI_num_cmp_hwctrs(3), PAPI_get_component_info(3).
use Rattle.std.specs.Prelude.{ℕ, ℤ, ◌≡◌, length, min, negsuc, option_map, pos, slice_get, Option, Some, None, Result, Ok, Err}
use Rattle.papi_base.specs.Codes.{number_of}
use Rattle.papi_base.specs.declared.code.Code.{Code}
use Rattle.papi_calls.specs.Codes.{code_in_row, event_coded}
use Rattle.papi_calls.specs.Libraries.{LibraryView}
use Rattle.papi_calls.specs.Rows.{component_of, of_event, row_of}
use Rattle.papi_c.specs.Asked.{or_no_event}
use Rattle.papi_c.specs.declared.codes.TheConstants.{MOST_ANSWERED}

-- the number is given, PAPI_OK, or it is refused by a code, and nothing is written
abbrev pub AnswersNumber : Result ℕ Code → ℤ → ℕ → ℕ → Type 0
AnswersNumber (Ok found) number before after = (number ≡ pos 0) × (after ≡ found)
AnswersNumber (Err code) number before after = (number ≡ number_of code) × (after ≡ before)

-- the same through a handle, and a shut one answers PAPI_ENOINIT
abbrev pub Answers : Option LibraryView → (LibraryView → Result ℕ Code) → ℤ → ℕ → ℕ → Type 0
Answers None asked number before after = (number ≡ negsuc 15) × (after ≡ before)
Answers (Some l) asked number before after = AnswersNumber (asked l) number before after

-- the code in a row of the catalog, and PAPI_ENOEVNT past the last
abbrev pub code_listed : ℕ → LibraryView → Result ℕ Code
code_listed row l = or_no_event (code_in_row l.catalog row)

-- the component of the event of a code
abbrev pub component_coded : ℕ → LibraryView → Result ℕ Code
component_coded code l = of_event (component_of l.catalog.book) (event_coded l.catalog l.mentioned code)

-- the row of the native event of a code
abbrev pub row_coded : ℕ → LibraryView → Result ℕ Code
row_coded code l = of_event row_of (event_coded l.catalog l.mentioned code)

-- a number as the answer has room for it, and PAPI_ENOCMP if there is no such component
abbrev pub AnswersCount : Option ℕ → ℤ → Type 0
AnswersCount (Some count) number = number ≡ pos (min count MOST_ANSWERED)
AnswersCount None number = number ≡ negsuc 16

-- the same through a handle
abbrev pub TellsCount : Option LibraryView → (LibraryView → Option ℕ) → ℤ → Type 0
TellsCount None asked number = number ≡ negsuc 15
TellsCount (Some l) asked number = AnswersCount (asked l) number

-- how many counters a component has
abbrev pub counter_count : ℕ → LibraryView → Option ℕ
counter_count comp l = option_map (λ c. length c.counters) (slice_get l.catalog.tables comp)

-- how many native events a component has
abbrev pub native_count : ℕ → LibraryView → Option ℕ
native_count comp l = option_map (λ c. length c.events) (slice_get l.catalog.tables comp)
