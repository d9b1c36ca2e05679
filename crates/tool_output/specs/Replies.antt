-- Replies as lines of text: this project's own format, docs/FORMATS.md. The names of codes are PAPI's: papi.h.
use Rattle.std.specs.Prelude.{◌==◌, ℕ, List, [], ◌∷◌, ◌++◌, map, filter, decimal, codes, zip}
use Rattle.std.specs.Fmt.{signed_decimal}
use Rattle.std.specs.Int.{bit_at}
use Rattle.std.specs.List.{flat_map, range_with_len}
use Rattle.std.specs.Option.{option_map_or}
use Rattle.call_type.specs.CallNames.{word_of}
use Rattle.papi_base.specs.Codes.{name_of}
use Rattle.call_type.specs.declared.call_name.CallName.{CallName}
use Rattle.papi_base.specs.declared.limits.TheConstants.{MOST_COUNTERS, THREADS}
use Rattle.papi_base.specs.declared.native.Native.{Native}
use Rattle.event_sets.specs.declared.refusal.Clash.{Clash}
use Rattle.component_table.specs.Catalogs.{CatalogView}
use Rattle.component_table.specs.EventNames.{event_name}
use Rattle.event_tables.specs.Tables.{counter_at}
use Rattle.name_encoder.specs.Canonical.{canonical}
use Rattle.session_model.specs.declared.reply.Body.{Body}
use Rattle.session_model.specs.declared.reply.Body.TheVariants as body
use Rattle.session_model.specs.declared.reply.Reply.{Reply}
use Rattle.tool_output.specs.Hexadecimal.{hex_text}

-- the bytes of a text
abbrev pub Text : Type 0
Text = List ℕ

-- the name of a counter of a component
abbrev pub counter_text : CatalogView → ℕ → ℕ → Text
counter_text catalog comp counter = option_map_or (λ c. c.name) (counter_at catalog.tables comp counter) []

-- the numbers below a limit whose bits are set, in increasing order
unfoldable pub members_below : ℕ → ℕ → List ℕ
members_below limit set = filter (λ k. bit_at set k == 1) (range_with_len 0 limit)

-- `NAME=COUNTER`: a native event and the counter that it is on
abbrev pub assigned_text : CatalogView → Native × ℕ → Text
assigned_text catalog pair = canonical catalog.tables pair.0 ++ 61 ∷ counter_text catalog pair.0.comp pair.1

-- the component of native events
abbrev pub component_of : List Native → ℕ
component_of [] = 0
component_of (n ∷ ns) = n.comp

-- the native events of a conflict, then `/`, then the counters that they are allowed
unfoldable pub clash_texts : CatalogView → Clash → List Text
clash_texts catalog clash =
    map (canonical catalog.tables) clash.natives ++ codes "/" ∷ map (counter_text catalog (component_of clash.natives)) (members_below MOST_COUNTERS clash.counters)

-- the results, which follow the code
abbrev pub results_of : CatalogView → Body → List Text
results_of catalog body.Nothing = []
results_of catalog (body.SetNumber number) = decimal number ∷ []
results_of catalog (body.Values values) = map signed_decimal values
results_of catalog (body.State bits) = hex_text 2 bits ∷ []
results_of catalog (body.Events events) = map (event_name catalog) events
results_of catalog (body.Assigned assigned) = map (assigned_text catalog) (zip assigned.natives assigned.counters)
results_of catalog (body.Clash clash) = clash_texts catalog clash
results_of catalog (body.Register value) = decimal value ∷ []
results_of catalog (body.Ran ran) = decimal ran.consumed ∷ decimal ran.notes ∷ []
results_of catalog (body.EventCode code) = hex_text 8 code ∷ []
results_of catalog (body.EventName event) = event_name catalog event ∷ []
results_of catalog (body.Threads threads) = map decimal (members_below THREADS threads)

-- each after a space
unfoldable pub spaced : List Text → Text
spaced texts = flat_map (λ text. 32 ∷ text) texts

-- the code of a reply and its results, each after a space
abbrev pub reply_text : CatalogView → Reply → Text
reply_text catalog reply = spaced (name_of reply.code ∷ results_of catalog reply.body)

-- the line, the thread, the word of the call and the reply
unfoldable pub line_text : CatalogView → ℕ → ℕ → CallName → Reply → Text
line_text catalog line thread word reply =
    decimal line ++ (spaced (decimal thread ∷ word_of word ∷ []) ++ (reply_text catalog reply ++ 10 ∷ []))
