-- What a thread's handler is told, over any list of calls: PAPI_overflow(3).
use Rattle.std.specs.Prelude.{ℕ, ◌/◌, ◌≡◌, ◌<◌, ◌≤◌, ◌==◌, Bool, false, ◌&&◌, nat_lt, if◌then◌else◌, List, [], ◌∷◌, ◌++◌, All, filter, length, map, Option, Some, slice_get, slice_index_or}
use Rattle.std.specs.List.{flat_map, range_with_len}
use Rattle.std.specs.Option.{option_and_then, option_map_or}
use Rattle.papi_base.specs.declared.limits.TheConstants.{LARGEST_AMOUNT, MOST_SETS}
use Rattle.papi_base.specs.declared.native.Native.{Native}
use Rattle.papi_base.specs.declared.occurrence.Occ.{Occ}
use Rattle.overflow_dispatch.specs.declared.handler.Note.{Note}
use Rattle.postfix_rules.specs.Presets.{Book, lead}
use Rattle.event_sets.specs.AtRest.{AtRest}
use Rattle.session_model.specs.CallTypes.{Call}
use Rattle.session_model.specs.Step.{notes_to}
use Rattle.call_laws.specs.History.{CallReply, OccAfter, Thread, answered, begun, newly_taken}
use Rattle.call_laws.specs.Measures.{count_over}
use Rattle.call_laws.specs.SetCalls.{runs_now, set_now, zeroes}
use Rattle.call_laws.specs.Values.{window}

-- ---- one set at one occurrence

-- what the set holds, the occurrences of its window so far, and the one that comes now
pub record Moment : Type 0 where
  pub set : AtRest
  pub so_far : List OccAfter
  pub now : OccAfter

-- the threshold of the set's event at this index, or 0 if it has none
abbrev pub threshold_at : AtRest → ℕ → ℕ
threshold_at s i = slice_index_or s.thresholds i 0

-- the first native event of the set's event at this index
abbrev pub first_native : Book → AtRest → ℕ → Option Native
first_native book s i = option_and_then (lead book) (slice_get s.events i)

-- with this occurrence the native event's count has reached more multiples of the threshold than without
abbrev pub reaches_more : Moment → ℕ → Native → Bool
reaches_more m t n =
    nat_lt (count_over m.set m.so_far n / t) (count_over m.set (m.so_far ++ m.now ∷ []) n / t)

-- the event at this index has a threshold, and passes it
abbrev pub passes : Book → Moment → ℕ → Bool
passes book m i =
    let t = threshold_at m.set i in
    nat_lt 0 t && option_map_or (reaches_more m t) (first_native book m.set i) false

-- the indexes of the events that pass their thresholds
abbrev pub passing_indexes : Book → Moment → List ℕ
passing_indexes book m = filter (passes book m) (range_with_len 0 (length m.set.events))

-- ---- all sets

-- the numbers of the sets that run after these calls
abbrev pub running_sets : List CallReply → List ℕ
running_sets earlier = filter (λ k. runs_now k earlier) (range_with_len 0 MOST_SETS)

-- a set that runs, at an occurrence of the next run; the run took these before it
abbrev pub moment : Thread → List CallReply → List OccAfter → OccAfter → ℕ → Moment
moment t earlier before p k =
    record { set = set_now t.book k earlier; so_far = window t.stream k earlier ++ before; now = p }

-- the note of the event at an index of a set
abbrev pub note_of : ℕ → ℕ → Occ → ℕ → Note
note_of thread k o i = record { thread = thread; set = k; index = i; pc = o.pc }

-- the notes of a set that runs, by the index of the event
abbrev pub notes_of_set : Thread → List CallReply → List OccAfter → OccAfter → ℕ → List Note
notes_of_set t earlier before p k =
    map (note_of t.number k p.occ) (passing_indexes t.book (moment t earlier before p k))

-- the notes of an occurrence, by the number of the set
abbrev pub notes_of_occ : Thread → List CallReply → List OccAfter → OccAfter → List Note
notes_of_occ t earlier before p = flat_map (notes_of_set t earlier before p) (running_sets earlier)

-- the notes of the next occurrences of a run, one after another
abbrev pub notes_of_run : Thread → List CallReply → List OccAfter → List OccAfter → List Note
notes_of_run t earlier before [] = []
notes_of_run t earlier before (p ∷ ps) =
    notes_of_occ t earlier before p ++ notes_of_run t earlier (before ++ p ∷ []) ps

-- the notes of a call
abbrev pub notes_of_call : Thread → CallReply → List CallReply → List Note
notes_of_call t x earlier = notes_of_run t earlier [] (newly_taken t.stream x earlier)

-- the notes of all calls in their order, which are given the latest first
abbrev pub passings : Thread → List CallReply → List Note
passings t [] = []
passings t (x ∷ earlier) = passings t earlier ++ notes_of_call t x earlier

-- the handler is told of exactly the thresholds passed, in order
abbrev pub NotesAreThePassings : Type 0
NotesAreThePassings = (t : Thread) (calls : List Call)
    → notes_to t.book t.shape (begun t) calls ≡ passings t (answered t calls)

-- ---- how many

-- the notes since the last call that zeroes the set of this number
abbrev pub passings_since : Thread → ℕ → List CallReply → List Note
passings_since t k [] = []
passings_since t k (x ∷ earlier) =
    if zeroes k x then [] else passings_since t k earlier ++ notes_of_call t x earlier

-- the note is of the event at this index of the set
abbrev pub is_note_of : ℕ → ℕ → Note → Bool
is_note_of k i note = (note.set == k) && (note.index == i)

-- the notes of this event since that call
abbrev pub notes_of_event : Thread → ℕ → ℕ → List CallReply → List Note
notes_of_event t k i log = filter (is_note_of k i) (passings_since t k log)

-- floor (count / T): the multiples of the threshold that the native event's count over the window has reached
abbrev pub multiples_reached : Thread → ℕ → ℕ → Native → List CallReply → ℕ
multiples_reached t k i n log =
    let s = set_now t.book k log in
    count_over s (window t.stream k log) n / threshold_at s i

-- the event at this index has a threshold, and this is its first native event
abbrev pub IsArmed : Book → AtRest → ℕ → Native → Type 0
IsArmed book s i n = (0 < threshold_at s i) × (first_native book s i ≡ Some n)

-- an armed event has one note for each multiple of its threshold that its count has reached
abbrev pub OneNoteForEach : Type 0
OneNoteForEach = (t : Thread) (calls : List Call) (k i : ℕ) (n : Native)
    → All (λ o. o.amount ≤ LARGEST_AMOUNT) t.stream
    → IsArmed t.book (set_now t.book k (answered t calls)) i n
    → length (notes_of_event t k i (answered t calls)) ≡ multiples_reached t k i n (answered t calls)
