-- What a thread's events count between two positions of its stream: PAPI_hl_read(3), PAPI_read(3). That a region is said by
-- positions is this project's own.
use Rattle.std.specs.Prelude.{ℕ, ◌+◌, ◌-◌, ◌==◌, ℤ, pos, ◌-ℤ◌, min, if◌then◌else◌, List, [], ◌∷◌, drop, length, sum, take, slice_index_or, None}
use Rattle.papi_base.specs.Streams.{Coming, Dry}
use Rattle.papi_base.specs.Weight.{weight_of}
use Rattle.papi_base.specs.declared.native.EventRef.{EventRef}
use Rattle.papi_base.specs.declared.native.EventRef.TheVariants as event
use Rattle.papi_base.specs.declared.native.Native.{Native}
use Rattle.papi_base.specs.declared.occurrence.Occ.{Occ}
use Rattle.postfix_rules.specs.Presets.{Book, event_value}
use Rattle.postfix_rules.specs.Values.{wrapped}
use Rattle.event_sets.specs.AtRest.{new_set}
use Rattle.region_report.specs.Kept.{count_of}
use Rattle.region_report.specs.declared.regions.RegionLine.{RegionLine}
use Rattle.session_model.specs.Counts.{along}

-- the occurrences of a thread's stream up to its end, however it ends; a thread without a stream has none
abbrev pub stream_of : List Coming → ℕ → List Occ
stream_of streams thread = (slice_index_or streams thread (record { rest = []; mark = Dry })).rest

-- ---- positions

-- how many occurrences the lines of a thread ask for
abbrev pub asked_in : ℕ → List RegionLine → ℕ
asked_in thread [] = 0
asked_in thread (line ∷ lines) = (if line.thread == thread then count_of line.call else 0) + asked_in thread lines

-- the position of a thread after some lines: how many occurrences were consumed, which are never more than there are
abbrev pub position : List Occ → ℕ → List RegionLine → ℕ
position tape thread before = min (asked_in thread before) (length tape)

-- ---- counts

-- what each occurrence adds to a native event, if all are counted from the first one on
abbrev pub weights : List Occ → Native → List ℕ
weights tape native = along (weight_of native new_set.domain) None tape

-- the sum of a native event's weights at the positions from p up to, but not including, q
abbrev pub count_between : List Occ → ℕ → ℕ → Native → ℕ
count_between tape p q native = sum (take (q - p) (drop p (weights tape native)))

-- the value of an event over the counts from the first occurrence up to a position
abbrev pub value_at : Book → List Occ → ℕ → EventRef → ℤ
value_at book tape q event = event_value book (count_between tape 0 q) event

-- The value of an event from position p to position q, in signed 64 bits that wrap: the sum of a native event's weights, and for a derived
-- event its rule's value at q less that at p.
abbrev pub value_between : Book → List Occ → ℕ → ℕ → EventRef → ℤ
value_between book tape p q (event.Native native) = wrapped (pos (count_between tape p q native))
value_between book tape p q (event.Preset row) = wrapped (value_at book tape q (event.Preset row) -ℤ value_at book tape p (event.Preset row))
