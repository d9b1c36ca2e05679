-- What regions count, by positions alone: PAPI_hl_region_begin(3), PAPI_hl_region_end(3).
use Rattle.std.specs.Prelude.{◌≡◌, ◌<◌, ℤ, if◌then◌else◌, List, [], ◌∷◌, ◌++◌, All, length, map}
use Rattle.std.specs.Int.{w64}
use Rattle.std.specs.Int.RustNames.{FitsSigned}
use Rattle.papi_base.specs.Streams.{Coming}
use Rattle.papi_base.specs.declared.limits.TheConstants.{THREADS}
use Rattle.papi_base.specs.declared.native.EventRef.{EventRef}
use Rattle.papi_base.specs.declared.occurrence.Occ.{Occ}
use Rattle.postfix_rules.specs.Presets.{Book}
use Rattle.event_sets.specs.AtRest.{new_set}
use Rattle.region_report.specs.Lines.{is_reading}
use Rattle.region_report.specs.Spans.{Span, spans_from}
use Rattle.region_report.specs.declared.regions.RegionLine.{RegionLine}
use Rattle.session_model.specs.World.{Setting, opening_world, told}
use Rattle.call_laws.specs.Nesting.{AreBegun, before_reading}
use Rattle.call_laws.specs.Positions.{position, stream_of, value_between}
use Rattle.call_laws.specs.Readings.{TakesAll, readings_told, script_of}

-- What a line shows of its region, if these lines stand before it: the value of each event from the position of the region's begin to
-- the position of the line.
abbrev pub region_values : Book → List Occ → List EventRef → List RegionLine → List RegionLine → RegionLine → List ℤ
region_values book tape events lines before line =
    map (value_between book tape (position tape line.thread (before_reading lines line.begun)) (position tape line.thread before)) events

-- a line with what it shows of its region: the line of the report is written from it
abbrev pub region_span : Book → List Coming → List EventRef → List RegionLine → List RegionLine → RegionLine → Span
region_span book streams events lines before line =
    record { line = line; values = region_values book (stream_of streams line.thread) events lines before line }

-- the span of one line, as a list of one, or of none if it is a `run`
abbrev pub spans_at : Book → List Coming → List EventRef → List RegionLine → List RegionLine → RegionLine → List Span
spans_at book streams events lines before line =
    if is_reading line then region_span book streams events lines before line ∷ [] else []

-- those of the further lines
abbrev pub spans_after : Book → List Coming → List EventRef → List RegionLine → List RegionLine → List RegionLine → List Span
spans_after book streams events lines before [] = []
spans_after book streams events lines before (line ∷ further) =
    spans_at book streams events lines before line ++ spans_after book streams events lines (before ++ line ∷ []) further

-- what each line that begins, reads or ends a region shows of it
abbrev pub region_spans : Book → List Coming → List EventRef → List RegionLine → List Span
region_spans book streams events lines = spans_after book streams events lines [] lines

-- ---- the law

-- each value is a signed number of 64 bits
abbrev pub AllFit : List (List ℤ) → Type 0
AllFit readings = All (λ values. All (FitsSigned w64) values) readings

-- If a new set takes the events and the readings of the script are of signed 64 bits, the differences of the readings are the values
-- between the positions.
abbrev pub SpansByPosition : Type 0
SpansByPosition = (at : Setting) (streams : List Coming) (lines : List RegionLine) (events : List EventRef)
    → All (λ l. l.thread < THREADS) lines → AreBegun lines → 0 < length events → TakesAll at.book new_set events
    → let readings = readings_told (told at (opening_world streams) (script_of lines events)) in
    AllFit readings → spans_from readings 0 lines ≡ region_spans at.book streams events lines
