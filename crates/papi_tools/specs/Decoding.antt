-- What `papi_decode` comes to: the presets and user events of a cpu as a preset file, after papi_decode(1). The text is that of docs/FORMATS.md.
use Rattle.std.specs.Prelude.{ℕ, Bool, true, false, List, Result, Ok}
use Rattle.component_table.specs.Books.{available_only, book_of, rows_in}
use Rattle.event_tables.specs.Tables.{ComponentText}
use Rattle.tool_words.specs.declared.decode.DecodeWords.{DecodeWords}
use Rattle.user_events.specs.Events.{ExtendedView}
use Rattle.user_events.specs.Written.{extended_text}
use Rattle.papi_tools.specs.Openings.{Openings, and_then, file_bytes, opened}
use Rattle.papi_tools.specs.Contents.{presets_of, unit_under}
use Rattle.papi_tools.specs.declared.limits.TheConstants.{TABLE_BYTES}
use Rattle.papi_tools.specs.Texts.{text_said}
use Rattle.papi_tools.specs.declared.refusal.Refusal.{Refusal}
use Rattle.papi_tools.specs.declared.said.Said.{Said}

-- the presets and user events that are shown: all of them, or the available ones alone
abbrev pub shown_of : Bool → List ComponentText → ExtendedView → ExtendedView
shown_of false tables presets = presets
shown_of true tables presets = available_only (book_of tables (rows_in presets)) presets

-- those out of the bytes of the preset file
unfoldable pub shown_in : DecodeWords → List ComponentText → List ℕ → Result ExtendedView Refusal
shown_in words tables bytes = and_then (presets_of words.presets bytes) (λ presets. Ok (shown_of words.available tables presets))

-- these as a preset file, and yes
abbrev pub decoded_said : ExtendedView → Said
decoded_said presets = text_said true (extended_text presets)

-- those out of the bytes of the preset file, as a preset file
abbrev pub decoded_in : DecodeWords → List ComponentText → List ℕ → Result Said Refusal
decoded_in words tables bytes = and_then (shown_in words tables bytes) (λ presets. Ok (decoded_said presets))

-- with the tables of the unit: the preset file
abbrev pub decoded_with : DecodeWords → List ComponentText → Openings → Result Said Refusal
decoded_with words tables openings = and_then (file_bytes TABLE_BYTES openings words.presets.file) (decoded_in words tables)

-- the unit, then the preset file
unfoldable pub decode_verdict : Openings → DecodeWords → Result Said Refusal
decode_verdict openings words = and_then (unit_under openings words.unit) (λ tables. decoded_with words tables (opened openings))
