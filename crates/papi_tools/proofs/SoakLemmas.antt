-- A soak: what it runs, what is said of it, and what the handlers are told.
use Rattle.papi_tools.proofs.Words.{◌≡◌, ◌<◌, ◌+◌, ◌-◌, ℕ, zero, suc, Bool, true, false, List, [], ◌∷◌, ◌++◌, length, map, replicate, Option, Some}
use Rattle.papi_tools.proofs.Words.{IsOkAnd, Result, Ok, Err, Vec, Global, vec_len, get_or, drop, refl, sym, ap, ap₂, ◌∙◌, arith, length-append}
use Rattle.papi_tools.proofs.Words.{drop_more, length-map, map-append, map-range_with_len_more, range_with_len, Note, EachAdded, Coming, ReaderView}
use Rattle.papi_tools.proofs.Words.{coming, CatalogView, ScriptLine, ReplyLine, ThreadTotal, SoakWords, Answers, AnswersBy, and_then, GivenRun}
use Rattle.papi_tools.proofs.Words.{IsGivenRun, note_counts, ran_notes, ran_replies, soak_given, soak_tape, soak_tapes, soak_verdict, soaked}
use Rattle.papi_tools.proofs.Words.{stop_values, summary_said, thread_total, thread_totals, total_between, totals_between, empty_stream, stream_of}
use Rattle.papi_tools.proofs.Words.{streams_of, AnswersSaid, ComesTo, notes_in, Refusal, Stop, Said}
use Rattle.std.specs.Prelude.{find, slice_index, slice_index_or}
use Rattle.papi_tools.specs.declared.refusal.Stop.TheVariants as stop
use Rattle.papi_tools.proofs.RunLemmas.{counted}
use Rattle.papi_tools.proofs.StepLemmas.{says_same}
use Rattle.papi_tools.proofs.StreamLemmas.{all_streams}
use Rattle.papi_tools.proofs.TellingLemmas.{none_added, none_begun}

-- ---- the streams

-- the reader of one thread more
pub reader_more : (rounds i : ℕ) (readers : List ReaderView) (r : ReaderView) → map (λ r. coming r) readers ≡ map (λ t. Some (stream_of t)) (map (soak_tape rounds) (range_with_len 0 i)) →
    coming r ≡ Some (stream_of (soak_tape rounds i)) → map (λ r. coming r) (readers ++ r ∷ []) ≡ map (λ t. Some (stream_of t)) (map (soak_tape rounds) (range_with_len 0 (i + 1)))
reader_more rounds i readers r so_far here =
    map-append (λ r. coming r) readers (r ∷ []) ∙ ap₂ (λ xs x. xs ++ x ∷ []) so_far here
    ∙ sym (ap (map (λ t. Some (stream_of t))) (map-range_with_len_more (soak_tape rounds) 0 i i (omega arith)) ∙ map-append (λ t. Some (stream_of t)) (map (soak_tape rounds) (range_with_len 0 i)) (soak_tape rounds i ∷ []))

-- the readers of all threads
pub all_readers : (rounds i n : ℕ) (named comes : List (Option Coming)) → i ≡ 4 → named ≡ map (λ t. Some (stream_of t)) (map (soak_tape rounds) (range_with_len 0 i)) → n ≡ length named →
    comes ≡ named ++ replicate (64 - n) (Some empty_stream) → comes ≡ map (λ s. Some s) (streams_of (soak_tapes rounds))
all_readers rounds i n named comes all so_far count is =
    all_streams (soak_tapes rounds) named comes n (so_far ∙ ap (λ k. map (λ t. Some (stream_of t)) (map (soak_tape rounds) (range_with_len 0 k))) all) count is

-- ---- the totals

-- what is sought is not here
pub sought_on : {X : Type 0} (p : X → Bool) (xs : List X) (i : ℕ) (x : X) → i < length xs → x ≡ get_or xs i x → p x ≡ false → find p (drop i xs) ≡ find p (drop (i + 1) xs)
sought_on p xs i x small is other = ap (find p) (drop_more xs i x small ∙ ap (λ y. y ∷ drop (i + 1) xs) (sym is)) ∙ simp other

-- what is sought is here
pub found_here : {X : Type 0} (p : X → Bool) (xs : List X) (i : ℕ) (x : X) → i < length xs → x ≡ get_or xs i x → p x ≡ true → find p (drop i xs) ≡ Some x
found_here p xs i x small is here = ap (find p) (drop_more xs i x small ∙ ap (λ y. y ∷ drop (i + 1) xs) (sym is)) ∙ simp here

count_at : (lists : List (List Note)) (t : ℕ) → slice_index (note_counts lists) t ≡ length (slice_index_or lists t [])
count_at [] t = refl
count_at (notes ∷ lists) zero = refl
count_at (notes ∷ lists) (suc t) = count_at lists t

same_map : {X : Type 0} (f g : ℕ → X) (a n : ℕ) → ((k : ℕ) → k < a + n → f k ≡ g k) → map f (range_with_len a n) ≡ map g (range_with_len a n)
same_map f g a zero h = refl
same_map f g a (suc n) h = ap₂ (λ x xs. x ∷ xs) (h a (omega arith)) (same_map f g (a + 1) n (λ k small. h k (omega arith)))

-- n notes more
told_more : (before given after : List (List Note)) (t : ℕ) → EachAdded before given after → t < length before →
    slice_index (note_counts after) t - slice_index (note_counts before) t ≡ length (slice_index_or given t [])
told_more before given after t h small =
    let more : length (slice_index_or after t []) ≡ length (slice_index_or before t []) + length (slice_index_or given t []) =
    ap (λ (notes : List Note). length notes) (h.added t small) ∙ length-append (slice_index_or before t []) (slice_index_or given t []) in
    omega (arith, count_at after t, count_at before t, more)

totals_told : (lines : List ReplyLine) (before given after : List (List Note)) → EachAdded before given after → length before ≡ 64 → totals_between lines (note_counts before) (note_counts after) ≡ thread_totals lines given
totals_told lines before given after h all =
    same_map (total_between lines (note_counts before) (note_counts after)) (thread_total lines given) 0 4
    (λ k small. ap (λ (n : ℕ). let total : ThreadTotal = record { values = stop_values lines k; notes = n } in total) (told_more before given after k h (omega (arith, all))))

-- ---- what is said and told

said_is : {X : Type 0} (told : X → List Note) (handlers later : List X) (given : GivenRun) (lines : List ReplyLine) (counts : List ℕ) (said : Said) → length handlers ≡ 64 → lines ≡ ran_replies given →
    counts ≡ note_counts (map told handlers) → EachAdded (map told handlers) (ran_notes given) (map told later) →
    said ≡ summary_said (totals_between lines counts (map (λ x. length (told x)) later)) (length lines) → (soaked given).said ≡ said
unfolding soaked
said_is told handlers later given lines counts said all l c h e =
    let all_lists : length (map told handlers) ≡ 64 = length-map handlers told ∙ all in
    sym (e
    ∙ ap (λ ks. summary_said (totals_between lines counts ks) (length lines)) (counted told later (map (λ x. length (told x)) later) refl)
    ∙ ap (λ ks. summary_said (totals_between lines ks (note_counts (map told later))) (length lines)) c
    ∙ ap (λ ts. summary_said ts (length lines)) (totals_told lines (map told handlers) (ran_notes given) (map told later) h all_lists)
    ∙ ap (λ ls. summary_said (thread_totals ls (ran_notes given)) (length ls)) l)

-- what is said of a run is what the definition says
pub said_told : {X : Type 0} (told : X → List Note) (handlers : Vec X Global) (later : List X) (given : GivenRun) (lines : List ReplyLine) (counts : List ℕ) (answer : Result Said Stop) → vec_len handlers ≡ 64 →
    lines ≡ ran_replies given → counts ≡ note_counts (map told handlers.items) → EachAdded (map told handlers.items) (ran_notes given) (map told later) →
    Answers answer (Ok (summary_said (totals_between lines counts (map (λ x. length (told x)) later)) (length lines))) → AnswersSaid answer (Ok (soaked given))
said_told told handlers later given lines counts answer n l c h e =
    let all : length handlers.items ≡ 64 = omega (arith, n) in
    let said = summary_said (totals_between lines counts (map (λ x. length (told x)) later)) (length lines) in
    says_same answer said (soaked given) e (said_is told handlers.items later given lines counts said all l c h refl)

-- ---- the whole of it

comes_by : (expected : Result GivenRun Refusal) (catalog : CatalogView) (script : List ScriptLine) (readers : List ReaderView) (before after : List (List Note)) (answer : Result Said Stop) →
    IsOkAnd expected (IsGivenRun catalog script readers) → ((given : GivenRun) → IsGivenRun catalog script readers given → ComesTo answer (Ok (soaked given)) before after) →
    ComesTo answer (and_then expected (λ given. Ok (soaked given))) before after
comes_by (Ok given) catalog script readers before after answer is each = each given is
comes_by (Err refusal) catalog script readers before after answer is each = absurd is

pub run_comes : (words : SoakWords) (rounds : ℕ) (catalog : CatalogView) (script : List ScriptLine) (readers : List ReaderView) (before after : List (List Note)) (answer : Result Said Stop) → rounds ≡ words.rounds →
    IsOkAnd (soak_given rounds) (IsGivenRun catalog script readers) → ((given : GivenRun) → IsGivenRun catalog script readers given → ComesTo answer (Ok (soaked given)) before after) → ComesTo answer (soak_verdict words) before after
unfolding soak_verdict
run_comes words rounds catalog script readers before after answer same is each = rw (← same) (comes_by (soak_given rounds) catalog script readers before after answer is each)

-- an answer that is not a value
abbrev pub IsRefusedBy : Stop → Result GivenRun Refusal → Type 0
IsRefusedBy s expected = AnswersBy {A = Unit {0}} (λ x e. Unit {0}) (Err s) expected

refused_by : (expected : Result GivenRun Refusal) (s : Stop) (lists : List (List Note)) → IsRefusedBy s expected → ComesTo (Err s) (and_then expected (λ given. Ok (soaked given))) lists lists
refused_by expected (stop.Refused refusal) lists h = let e : expected ≡ Err refusal = h in rw e (record { said = refl; told = none_added lists [] refl })
refused_by expected stop.Memory lists h = record { said = tt; told = none_begun lists (notes_in (and_then expected (λ given. Ok (soaked given)))) }

-- a refusal of what was made would end the call, and nothing is told then
pub run_refused : (words : SoakWords) (rounds : ℕ) (s : Stop) (lists : List (List Note)) → rounds ≡ words.rounds → IsRefusedBy s (soak_given rounds) → ComesTo (Err s) (soak_verdict words) lists lists
unfolding soak_verdict
run_refused words rounds s lists same h = rw (← same) (refused_by (soak_given rounds) s lists h)
