-- The laws of threads and regions over streams of any bytes.
use Rattle.std.proofs.Common.{arith}
use Rattle.call_laws.proofs.Words.{◌≡◌, ◌≤◌, ℕ, List, length, sym, subst, Some, take-append-drop, All-weaker, Tape, LARGEST_AMOUNT}
use Rattle.call_laws.proofs.Words.{Call, Kept, IsWithin, Rises, at, counts_per_tick, one_group_counts, each_at, rises-front, Thread}
use Rattle.call_laws.proofs.Words.{NativesAreExactOverTape, OneGroupOverTape, OneNoteOverTape, PastRises, StreamStays, TurnsCountPerTick, account_of}
use Rattle.call_laws.proofs.Words.{said, thread_over}
use Rattle.std.specs.Prelude.{All}
use Rattle.call_laws.proofs.Bounded.{natives_are_exact}
use Rattle.call_laws.proofs.Given.{amounts_fit, said_rises}
use Rattle.call_laws.proofs.Often.{one_for_each}
use Rattle.call_laws.proofs.Steps.{thread_follows}

-- no amount of a stream is above 255
small : (tape : Tape) → All (λ o. o.amount ≤ LARGEST_AMOUNT) (said tape).rest
small tape = All-weaker (λ o. (1 ≤ o.amount) × (o.amount ≤ LARGEST_AMOUNT)) (λ o. o.amount ≤ LARGEST_AMOUNT) (λ o h. h.1) (said tape).rest (amounts_fit tape)

-- ---- threads

pub stream_stays : StreamStays
stream_stays t calls = grind (arith, thread_follows, take-append-drop)

pub past_rises : PastRises
past_rises book shape number tape calls =
    let a = account_of (thread_over book shape number tape) calls in
    rises-front 0 a.past a.rest (subst (Rises 0) (sym (stream_stays (thread_over book shape number tape) calls)) (said_rises tape))

pub one_note_over_tape : OneNoteOverTape
one_note_over_tape book shape number tape calls k i n armed = one_for_each (thread_over book shape number tape) calls k i n (small tape) armed

-- the window of a set lies in the past
within : (t : Thread) (calls : List Call) (k : ℕ) (s : Kept) → at (account_of t calls).sets k ≡ Some s → IsWithin (length (account_of t calls).past) s
within t calls k s here = each_at (IsWithin (length (account_of t calls).past)) (account_of t calls).sets k s (thread_follows t calls).within.each here

pub turns_count_per_tick : TurnsCountPerTick
turns_count_per_tick book shape number tape calls k s slice numbers group n here =
    counts_per_tick (account_of (thread_over book shape number tape) calls).past s slice numbers group n
    (past_rises book shape number tape calls) (within (thread_over book shape number tape) calls k s here)

pub one_group_over_tape : OneGroupOverTape
one_group_over_tape book shape number tape calls k s turns n here one =
    one_group_counts (account_of (thread_over book shape number tape) calls).past s turns n
    (past_rises book shape number tape calls) (within (thread_over book shape number tape) calls k s here) one

-- ---- regions

pub natives_are_exact_over_tape : NativesAreExactOverTape
natives_are_exact_over_tape book tape thread before further p n regions = natives_are_exact book (said tape).rest thread before further p n (small tape) regions
