-- The first of the streams are open, in readers.
use Rattle.papi_tools.proofs.Words.{◌≡◌, ◌<◌, ◌+◌, ◌-◌, ℕ, zero, suc, true, false, List, [], ◌∷◌, ◌++◌, All, length, drop, map, replicate, Option}
use Rattle.papi_tools.proofs.Words.{Some, None, Result, Ok, Err, refl, sym, ap, ap₂, ◌∙◌, append_assoc, append-nil, get_or, add-one, drop-cons, arith}
use Rattle.papi_tools.proofs.Words.{subst, Tape, Held, End, Coming, CanEachCome, occurs_of, ReaderView, SourceView, comes, new_view, tape_of, CanCome}
use Rattle.papi_tools.proofs.Words.{CanGive, CanOpen, Ends, ForSome, Leads, Openings, Stops, and_then, opened, tape_under, tapes_under, CanEachGive}
use Rattle.papi_tools.proofs.Words.{IsUnread, empty_stream, stream_of, streams_of, streams_under, Refusal, Stop}
use Rattle.papi_tools.specs.declared.refusal.Stop.TheVariants as stop
use Rattle.papi_tools.proofs.FindingLemmas.{some_openings}

-- These are open, and whatever tapes they have and the openings after them find, some openings gave these tapes and go on so.
pub record AreOpen (before : Option Held) (names rest : List (List ℕ)) (now : Option Held) (readers : List ReaderView) : Type 0 where
  pub each : (tapes : List Tape) → CanEachGive readers tapes → (later : Openings) → CanOpen now later →
      ForSome before (λ openings. tapes_under openings names ≡ and_then (tapes_under later rest) (λ more. Ok (tapes ++ more)))

by_all : (all : Result (List Tape) Refusal) → all ≡ and_then all (λ more. Ok ([] ++ more))
by_all (Ok tapes) = refl
by_all (Err refusal) = refl

start_by : (before : Option Held) (names : List (List ℕ)) (tapes : List Tape) → CanEachGive [] tapes → (later : Openings) → CanOpen before later →
    ForSome before (λ openings. tapes_under openings names ≡ and_then (tapes_under later names) (λ more. Ok (tapes ++ more)))
start_by before names [] h later can = (later, can, by_all (tapes_under later names))
start_by before names (t ∷ ts) h later can = absurd h

pub start : (before : Option Held) (names : List (List ℕ)) → AreOpen before names names before []
start before names = record { each = start_by before names }

-- the tapes of the first readers, and that of the last
last_of : (readers : List ReaderView) (r : ReaderView) (tapes : List Tape) → CanEachGive (readers ++ r ∷ []) tapes → (first : List Tape) × (t : Tape) × (tapes ≡ first ++ t ∷ []) × CanEachGive readers first × CanGive (tape_of r) t
last_of [] r [] h = absurd h
last_of [] r (t ∷ []) h = ([], t, refl, tt, h.0)
last_of [] r (t ∷ u ∷ ts) h = absurd h.1
last_of (x ∷ xs) r [] h = absurd h
last_of (x ∷ xs) r (t ∷ ts) h =
    let (first, u, e, f, g) = last_of xs r ts h.1 in
    (t ∷ first, u, ap (λ us. t ∷ us) e, (h.0, f), g)

one_more : (tapes : List Tape) (t : Tape) (rest : Result (List Tape) Refusal) → and_then (and_then rest (λ more. Ok (t ∷ more))) (λ more. Ok (tapes ++ more)) ≡ and_then rest (λ more. Ok ((tapes ++ t ∷ []) ++ more))
one_more tapes t (Ok more) = ap Ok (sym (append_assoc tapes (t ∷ []) more))
one_more tapes t (Err refusal) = refl

more : {S : Type 0} (tape : S → Option Tape) (source : S) (before now next : Option Held) (names rest : List (List ℕ)) (name : List ℕ) (readers : List ReaderView) (r : ReaderView) → AreOpen before names (name ∷ rest) now readers →
    Leads (λ s t. CanGive (tape s) t) (Ok source) (λ o. tape_under o name) opened now next → tape_of r ≡ tape source → AreOpen before names rest next (readers ++ r ∷ [])
more tape source before now next names rest name readers r a opens e = record {
  each = λ tapes give later can.
      let (first, t, parts, f_give, t_give) = last_of readers r tapes give in
      let (mid, m_can, (there, goes)) = opens t (rw e at t_give) later can in
      let (o, o_can, is) = a.each first f_give mid m_can in
      (o, o_can, subst (λ (ts : List Tape). tapes_under o names ≡ and_then (tapes_under later rest) (λ more. Ok (ts ++ more))) (sym parts) ((rw (there, goes) at is) ∙ one_more first t (tapes_under later rest)));
}

next_name : (names : List (List ℕ)) (i : ℕ) (item name : List ℕ) → i < length names → item ≡ get_or names i item → name ≡ item → drop i names ≡ name ∷ drop (i + 1) names
next_name names i item name h e same = rw add-one (drop-cons names i item h ∙ ap (λ x. x ∷ drop (suc i) names) (sym e ∙ sym same))

pub more_at : {S : Type 0} (tape : S → Option Tape) (source : S) (before now next : Option Held) (names : List (List ℕ)) (i : ℕ) (item name : List ℕ) (readers : List ReaderView) (r : ReaderView) → i < length names →
    item ≡ get_or names i item → name ≡ item → AreOpen before names (drop i names) now readers → Leads (λ s t. CanGive (tape s) t) (Ok source) (λ o. tape_under o name) opened now next →
    tape_of r ≡ tape source → AreOpen before names (drop (i + 1) names) next (readers ++ r ∷ [])
more_at tape source before now next names i item name readers r h e same a opens s =
    more tape source before now next names (drop (i + 1) names) name readers r (rw (next_name names i item name h e same) at a) opens s

-- all of them are open
pub all_open : (before now : Option Held) (names rest : List (List ℕ)) (readers : List ReaderView) → rest ≡ [] → AreOpen before names rest now readers →
    (tapes : List Tape) → CanEachGive readers tapes → ForSome before (λ openings. tapes_under openings names ≡ Ok tapes)
all_open before now names rest readers none a tapes give =
    let (later, can) = some_openings now in
    let (o, o_can, is) = a.each tapes give later can in
    (o, o_can, (rw none at is) ∙ ap Ok (append-nil tapes))

some_tape : (told : Option Tape) → (tape : Tape) × CanGive told tape
some_tape None = (record { bytes = []; ending = End }, tt)
some_tape (Some tape) = (tape, refl)

some_tapes : (readers : List ReaderView) → (tapes : List Tape) × CanEachGive readers tapes
some_tapes [] = ([], tt)
some_tapes (r ∷ rs) =
    let (t, t_can) = some_tape (tape_of r) in
    let (ts, ts_can) = some_tapes rs in
    (t ∷ ts, (t_can, ts_can))

-- a file that is not opened ends the opening
stopped : (before now : Option Held) (names rest : List (List ℕ)) (name : List ℕ) (readers : List ReaderView) (s : Stop) → AreOpen before names (name ∷ rest) now readers →
    Stops s (λ o. tape_under o name) now → Stops s (λ o. tapes_under o names) before
stopped before now names rest name readers stop.Memory a h = tt
stopped before now names rest name readers (stop.Refused refusal) a h =
    let (mid, m_can, there) = h in
    let (tapes, give) = some_tapes readers in
    let (o, o_can, is) = a.each tapes give mid m_can in
    (o, o_can, rw there at is)

pub stopped_at : (before now : Option Held) (names : List (List ℕ)) (i : ℕ) (item name : List ℕ) (readers : List ReaderView) (s : Stop) → i < length names → item ≡ get_or names i item → name ≡ item →
    AreOpen before names (drop i names) now readers → Stops s (λ o. tape_under o name) now → Stops s (λ o. tapes_under o names) before
stopped_at before now names i item name readers s h e same a opens =
    stopped before now names (drop (i + 1) names) name readers s (rw (next_name names i item name h e same) at a) opens

-- ---- the streams of all threads

-- a new reader gives the stream of the whole tape
pub unread : (r : ReaderView) (source : Option SourceView) → r ≡ new_view source false → IsUnread r
unfolding comes occurs_of
unread r source e tape = rw e refl

abbrev no_reader : ReaderView
no_reader = new_view None true

nothing_comes : (s : Coming) → CanCome no_reader s → s ≡ empty_stream
unfolding comes
nothing_comes s can = sym can.says

later_come : (r : ReaderView) (rs : List ReaderView) (s : Coming) (ss : List Coming) → CanEachCome (r ∷ rs) (s ∷ ss) → CanEachCome rs ss
later_come r rs s ss h = record { same_length = let e = h.same_length in omega arith; each = λ t x y small. h.each (suc t) x y (omega arith) }

none_come : (n : ℕ) (streams : List Coming) → CanEachCome (replicate n no_reader) streams → streams ≡ replicate n empty_stream
none_come zero [] h = refl
none_come zero (s ∷ ss) h = absurd (let e = h.same_length in omega arith)
none_come (suc n) [] h = absurd (let e = h.same_length in omega arith)
none_come (suc n) (s ∷ ss) h =
    rw (nothing_comes s (h.each 0 no_reader s (omega arith))) (ap (λ xs. empty_stream ∷ xs) (none_come n ss (later_come no_reader (replicate n no_reader) s ss h)))

-- what can come of readers that were not read, and of empty ones, are the streams of tapes, and empty ones
tapes_of : (readers : List ReaderView) (n : ℕ) (streams : List Coming) → All IsUnread readers → CanEachCome (readers ++ replicate n no_reader) streams →
    (tapes : List Tape) × CanEachGive readers tapes × (length tapes ≡ length readers) × (map stream_of tapes ++ replicate n empty_stream ≡ streams)
tapes_of [] n streams new h = ([], tt, refl, sym (none_come n streams h))
tapes_of (r ∷ rs) n [] new h = absurd (let e = h.same_length in omega arith)
tapes_of (r ∷ rs) n (s ∷ ss) new h =
    let first = h.each 0 r s (omega arith) in
    let tape = first.tape in
    let whole : comes r tape.ending tape.bytes ≡ stream_of tape = new 0 r (omega arith) tape in
    let (tapes, give, long, is) = tapes_of rs n ss (λ k d small. new (suc k) d (omega arith)) (later_come r (rs ++ replicate n no_reader) s ss h) in
    (tape ∷ tapes, (first.told, give), ap suc long, ap₂ (λ x xs. x ∷ xs) (sym whole ∙ first.says) is)

streams_under_tapes : (o : Openings) (names : List (List ℕ)) (tapes : List Tape) (n m : ℕ) (streams : List Coming) → tapes_under o names ≡ Ok tapes → length tapes ≡ m → n ≡ m →
    map stream_of tapes ++ replicate (64 - n) empty_stream ≡ streams → streams_under o names ≡ Ok streams
unfolding streams_of
streams_under_tapes o names tapes n m streams gave long many is = rw (gave, long ∙ sym many) (ap Ok is)

pub streams_found : (readers all : List ReaderView) (n : ℕ) (names : List (List ℕ)) (before : Option Held) → n ≡ length readers → all ≡ readers ++ replicate (64 - n) no_reader → All IsUnread readers →
    Ends {A = Unit {0}} (λ x tapes. CanEachGive readers tapes) (Ok tt) (λ o. tapes_under o names) before → Ends (λ rs streams. CanEachCome rs streams) (Ok all) (λ o. streams_under o names) before
streams_found readers all n names before many e new found = λ streams can.
    let (tapes, give, long, is) = tapes_of readers (64 - n) streams new (rw e at can) in
    let (o, o_can, gave) = found tapes give in
    (o, o_can, streams_under_tapes o names tapes n (length readers) streams gave long many is)
