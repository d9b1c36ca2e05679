-- What `papi_native_avail` comes to: the native events of a unit, or one of them, after papi_native_avail(1). The text is that of
-- docs/FORMATS.md.
use Rattle.std.specs.Prelude.{ℕ, true, List, Option, Some, None, is_ok, Result, Ok}
use Rattle.event_tables.specs.Tables.{ComponentText}
use Rattle.tool_output.specs.NativeEvents.{native_event}
use Rattle.tool_output.specs.NativeLists.{native_list}
use Rattle.name_encoder.specs.Names.{names}
use Rattle.tool_words.specs.declared.native_avail.NativeAvailWords.{NativeAvailWords}
use Rattle.papi_tools.specs.Openings.{Openings, and_then}
use Rattle.papi_tools.specs.Texts.{text_said}
use Rattle.papi_tools.specs.Contents.{unit_under}
use Rattle.papi_tools.specs.declared.refusal.Refusal.{Refusal}
use Rattle.papi_tools.specs.declared.said.Said.{Said}

-- the list of the events that the words choose; or the event of a name, if one is asked for: a name of no event is a no
abbrev pub natives_said : List ComponentText → NativeAvailWords → Option (List ℕ) → Said
natives_said tables words None = text_said true (native_list tables words.included words.excluded words.umasks)
natives_said tables words (Some name) = text_said (is_ok (names tables name)) (native_event tables name)

-- the unit, then its events
unfoldable pub native_avail_verdict : Openings → NativeAvailWords → Result Said Refusal
native_avail_verdict openings words = and_then (unit_under openings words.unit) (λ tables. Ok (natives_said tables words words.event))
