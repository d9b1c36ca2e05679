-- What `papi_regions` comes to: counts by region of a program, after PAPI_hl_region_begin(3).
use Rattle.std.specs.Prelude.{ℕ, ℤ, false, List, [], ◌∷◌, length, Result, Ok, Err}
use Rattle.std.specs.List.{flat_map}
use Rattle.papi_base.specs.declared.code.Code.{Code}
use Rattle.papi_base.specs.declared.native.EventRef.{EventRef}
use Rattle.tool_output.specs.Choosing as Choosing
use Rattle.tool_output.specs.Choosing.{given_set, refused_text}
use Rattle.component_table.specs.Catalogs.{CatalogView, looked_up}
use Rattle.thread_registry.specs.Marks.{marks_in}
use Rattle.thread_registry.specs.declared.runner.result.ReplyLine.{ReplyLine}
use Rattle.call_laws.specs.Spans.{region_spans}
use Rattle.region_report.specs.CallLines.{asked, numbered}
use Rattle.region_report.specs.Reports.{report_text}
use Rattle.region_report.specs.declared.regions.RegionLine.{RegionLine}
use Rattle.session_model.specs.declared.reply.Body.{Body}
use Rattle.session_model.specs.declared.reply.Body.TheVariants.{Values}
use Rattle.tool_words.specs.declared.regions.RegionsWords.{RegionsWords}
use Rattle.papi_tools.specs.Marks.{marked_said}
use Rattle.papi_tools.specs.Contents.{after_tables, catalog_under, regions_under}
use Rattle.papi_tools.specs.Running.{GivenOf, GivenRun, given_of, ran_replies}
use Rattle.papi_tools.specs.Openings.{Openings, and_then}
use Rattle.papi_tools.specs.Texts.{text_said}
use Rattle.papi_tools.specs.declared.refusal.Refusal.{Refusal}
use Rattle.papi_tools.specs.declared.said.Said.{Said}

-- ---- what is run

-- the catalog, the lines of the region script, and the streams of all threads
abbrev pub GivenRegions : Type 0
GivenRegions = GivenOf (List RegionLine)

-- the script of calls: a set of the events for each thread that has lines, and then a call for each line
abbrev pub calls_of : List (List ℕ) → GivenRegions → GivenRun
calls_of events given = record { catalog = given.catalog; script = numbered 1 (asked given.script events); streams = given.streams }

-- ---- what was read

-- the values that a reply shows, as a list of one or none
abbrev pub values_in : Body → List (List ℤ)
values_in (Values values) = values ∷ []
values_in other = []

-- what was read, in the order of the script
abbrev pub readings_in : List ReplyLine → List (List ℤ)
readings_in replies = flat_map (λ l. values_in l.reply.body) replies

-- ---- what is said of it

-- the event of a text that names one
abbrev pub named_by : Result EventRef Code → List EventRef
named_by (Ok event) = event ∷ []
named_by (Err code) = []

-- the events that texts name
abbrev pub events_named : CatalogView → List (List ℕ) → List EventRef
events_named catalog texts = flat_map (λ text. named_by (looked_up catalog text)) texts

-- the report of what the regions count between the positions of their lines, and the lines of the marks that runs met
abbrev pub counted_said : List (List ℕ) → GivenRegions → Said
counted_said events given =
    marked_said (marks_in (ran_replies (calls_of events given)))
    (report_text (length events) (region_spans given.catalog.book given.streams (events_named given.catalog events) given.script))

-- the report, if a set takes the events; else the first that is refused, as papi_event_chooser says it, and nothing is run
abbrev pub said_with : List (List ℕ) → GivenRegions → Choosing.GivenSet → Said
said_with events given (Ok set) = counted_said events given
said_with events given (Err refused) = text_said false (refused_text given.catalog refused)

-- what is said of these regions and events
unfoldable pub regions_said : List (List ℕ) → GivenRegions → Said
regions_said events given = said_with events given (given_set given.catalog events)

-- ---- the steps

-- what is said with this catalog: the region script, then the streams, then the run
abbrev pub counted_of : RegionsWords → CatalogView → Openings → Result Said Refusal
counted_of words catalog openings = and_then (given_of catalog (λ o. regions_under o words.script) words.streams openings) (λ given. Ok (regions_said words.events given))

-- the tables, then the region script, then the streams in their order, and then the run
unfoldable pub regions_verdict : Openings → RegionsWords → Result Said Refusal
regions_verdict openings words =
    and_then (catalog_under openings words.unit words.presets) (λ catalog. counted_of words catalog (after_tables words.presets openings))
