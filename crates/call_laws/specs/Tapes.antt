-- Streams of any bytes: this project's own stream format, docs/FORMATS.md. What they give, and what holds of threads and regions over
-- them with no further premise.
use Rattle.std.specs.Prelude.{ℕ, ◌*◌, ◌≡◌, ◌≤◌, ◌<◌, pos, List, ◌++◌, All, AllPairs, length, Some}
use Rattle.papi_base.specs.Outside.{Tape}
use Rattle.papi_base.specs.Streams.{Coming}
use Rattle.papi_base.specs.declared.limits.TheConstants.{LARGEST_AMOUNT, LAST_STAMP}
use Rattle.papi_base.specs.declared.native.EventRef.TheVariants as event
use Rattle.papi_base.specs.declared.native.Native.{Native}
use Rattle.multiplex.specs.Turns.{Turns, active, weight_in_turn}
use Rattle.postfix_rules.specs.Presets.{Book}
use Rattle.event_sets.specs.AtRest.{Widths}
use Rattle.region_report.specs.Kept.{IsRegions}
use Rattle.region_report.specs.declared.regions.RegionLine.{RegionLine}
use Rattle.session_model.specs.CallTypes.{Call}
use Rattle.session_model.specs.Account.{Account, Kept}
use Rattle.session_model.specs.Bounds.{Rises}
use Rattle.session_model.specs.Counts.{count, weighed}
use Rattle.session_model.specs.Estimates.{estimated_in, total, turns_of}
use Rattle.session_model.specs.Faces.{at}
use Rattle.session_model.specs.Step.{account_after}
use Rattle.stream_reader.specs.Occurs.{occurs_of}
use Rattle.call_laws.specs.History.{Thread, answered, begun}
use Rattle.call_laws.specs.Passings.{IsArmed, multiples_reached, notes_of_event}
use Rattle.call_laws.specs.Positions.{count_between, position, value_between}
use Rattle.call_laws.specs.SetCalls.{set_now}

-- what the bytes of a stream say, however it ends
abbrev pub said : Tape → Coming
said tape = occurs_of tape.ending tape.bytes

-- ---- what every stream gives

-- each amount is from 1 to 255
abbrev pub AmountsFit : Type 0
AmountsFit = (tape : Tape) → All (λ o. (1 ≤ o.amount) × (o.amount ≤ LARGEST_AMOUNT)) (said tape).rest

-- each stamp is above those before it
abbrev pub StampsRise : Type 0
StampsRise = (tape : Tape) → AllPairs (λ o later. o.stamp < later.stamp) (said tape).rest

-- no stamp is above the last one
abbrev pub StampsFit : Type 0
StampsFit = (tape : Tape) → All (λ o. o.stamp ≤ LAST_STAMP) (said tape).rest

-- ---- threads

-- the thread of this number over a stream
abbrev pub thread_over : Book → Widths → ℕ → Tape → Thread
thread_over book shape number tape = record { book = book; shape = shape; number = number; stream = (said tape).rest; mark = (said tape).mark }

-- the account of a thread after its first calls
abbrev pub account_of : Thread → List Call → Account
account_of t calls = account_after t.book t.shape (begun t) calls

-- what was consumed and what is to come is the stream
abbrev pub StreamStays : Type 0
StreamStays = (t : Thread) (calls : List Call) → (account_of t calls).past ++ (account_of t calls).rest ≡ t.stream

-- the stamps of what was consumed rise, with amounts of occurrences
abbrev pub PastRises : Type 0
PastRises = (book : Book) (shape : Widths) (number : ℕ) (tape : Tape) (calls : List Call)
    → Rises 0 (account_of (thread_over book shape number tape) calls).past

-- an armed event has one note for each multiple of its threshold that its count has reached
abbrev pub OneNoteOverTape : Type 0
OneNoteOverTape = (book : Book) (shape : Widths) (number : ℕ) (tape : Tape) (calls : List Call) (k i : ℕ) (n : Native)
    → let t = thread_over book shape number tape in
    IsArmed book (set_now book k (answered t calls)) i n
    → length (notes_of_event t k i (answered t calls)) ≡ multiples_reached t k i n (answered t calls)

-- what a native event counts in its turns is at most 255 for each tick of them
abbrev pub TurnsCountPerTick : Type 0
TurnsCountPerTick = (book : Book) (shape : Widths) (number : ℕ) (tape : Tape) (calls : List Call) (k : ℕ) (s : Kept)
    (slice : ℕ) (numbers : List ℕ) (group : ℕ) (n : Native)
    → let a = account_of (thread_over book shape number tape) calls in
    let turns = turns_of slice numbers a.past s in
    at a.sets k ≡ Some s
    → weighed (weight_in_turn turns group n s.set.domain) a.past s ≤ LARGEST_AMOUNT * active turns group (total a.past s)

-- if all native events are in one group, the estimate is the count
abbrev pub OneGroupOverTape : Type 0
OneGroupOverTape = (book : Book) (shape : Widths) (number : ℕ) (tape : Tape) (calls : List Call) (k : ℕ) (s : Kept) (turns : Turns) (n : Native)
    → let a = account_of (thread_over book shape number tape) calls in
    at a.sets k ≡ Some s → turns.count ≡ 1 → estimated_in a.past s turns 0 n ≡ count a.past s n

-- ---- regions

-- the value of a native event between two positions is the sum of its weights, which is below 2^63
abbrev pub NativesAreExactOverTape : Type 0
NativesAreExactOverTape = (book : Book) (tape : Tape) (thread : ℕ) (before further : List RegionLine) (p : ℕ) (n : Native)
    → IsRegions (before ++ further)
    → let os = (said tape).rest in
    value_between book os p (position os thread before) (event.Native n) ≡ pos (count_between os p (position os thread before) n)
