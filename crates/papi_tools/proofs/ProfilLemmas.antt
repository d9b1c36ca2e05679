-- The notes of an event that a profile counts, and what is said of them.
use Rattle.papi_tools.proofs.Words.{◌≡◌, ◌<◌, ◌≤◌, ◌+◌, ◌-◌, ◌∙◌, ℕ, zero, suc, List, [], ◌∷◌, ◌++◌, length, drop, filter, get_or, map, take, Some}
use Rattle.papi_tools.proofs.Words.{None, Result, Ok, Vec, Global, Option, vec_len, refl, sym, ap, arith, slice_index_or, drop-append_seam}
use Rattle.papi_tools.proofs.Words.{drop-append-le, length-take-le, map-append, take_all, take_more, filter-append, get_or_from_slice_get}
use Rattle.papi_tools.proofs.Words.{slice_get_within, Note, EachAdded, Ended, ReplyLine, marks_in, HistText, IsHistogram, RangeText, ProfilWords}
use Rattle.papi_tools.proofs.Words.{Answers, counted_in, is_counted, profile_said, profiled_verdict, GivenRun, note_counts, ran_notes, ran_replies}
use Rattle.papi_tools.proofs.Words.{AnswersSaid, Stop, Said}
use Rattle.std.specs.Prelude.{slice_get}
use Rattle.papi_tools.proofs.RunLemmas.{as_many}
use Rattle.papi_tools.proofs.StepLemmas.{says_same}

-- ---- the notes, one after another

-- what was counted of the notes from one place to another
pub record Counts (hist : HistText) (ranges : List RangeText) (set index first i : ℕ) (told : List Note) : Type 0 where
  pub counts : IsHistogram hist (counted_in set index (drop first (take i told)))
  pub few : hist.total ≤ i - first
  pub same_map : hist.map ≡ ranges

none_taken : (n : ℕ) (told : List Note) → drop n (take n told) ≡ []
none_taken zero told = refl
none_taken (suc n) [] = refl
none_taken (suc n) (note ∷ told) = none_taken n told

pub count_none : (hist : HistText) (set index first : ℕ) (told : List Note) → IsHistogram hist [] → Counts hist hist.map set index first first told
count_none hist set index first told h = record { counts = rw (none_taken first told) h; few = let e = h.total in omega (arith, e); same_map = refl }

notes_more : (set index first i : ℕ) (told : List Note) (note : Note) → first ≤ i → slice_get told i ≡ Some note →
    counted_in set index (drop first (take (i + 1) told)) ≡ counted_in set index (drop first (take i told)) ++ counted_in set index (note ∷ [])
notes_more set index first i told note low there =
    let small : i < length told = slice_get_within told i note there in
    let taken : take (i + 1) told ≡ take i told ++ note ∷ [] = take_more told i note small ∙ ap (λ n. take i told ++ n ∷ []) (get_or_from_slice_get told i note note there) in
    let long : length (take i told) ≡ i = length-take-le i told (omega arith) in
    ap (λ ns. counted_in set index (drop first ns)) taken
    ∙ ap (counted_in set index) (drop-append-le first (take i told) (note ∷ []) (omega (arith, long)))
    ∙ ap (map (λ (n : Note). n.pc)) (filter-append (is_counted set index) (drop first (take i told)) (note ∷ []))
    ∙ map-append (λ (n : Note). n.pc) (filter (is_counted set index) (drop first (take i told))) (filter (is_counted set index) (note ∷ []))

pub count_one : (hist hist' : HistText) (ranges : List RangeText) (set index first i : ℕ) (told : List Note) (note : Note) → first ≤ i → slice_get told i ≡ Some note →
    hist'.map ≡ hist.map → hist'.total ≤ hist.total + 1 → ((pcs : List ℕ) → IsHistogram hist pcs → IsHistogram hist' (pcs ++ counted_in set index (note ∷ []))) →
    Counts hist ranges set index first i told → Counts hist' ranges set index first (i + 1) told
count_one hist hist' ranges set index first i told note low there same one counts c = record {
  counts = rw (notes_more set index first i told note low there) (counts (counted_in set index (drop first (take i told))) c.counts);
  few = omega (arith, c.few, one);
  same_map = same ∙ c.same_map;
}

pub there_is : (told : List Note) (i : ℕ) → i < length told → None ≡ slice_get told i → ⊥
there_is [] i small e = omega arith
there_is (note ∷ told) zero small e = absurd cc
there_is (note ∷ told) (suc i) small e = there_is told i (omega arith) e

pub count_all : (hist : HistText) (ranges : List RangeText) (set index first i : ℕ) (told : List Note) → length told ≤ i → Counts hist ranges set index first i told → IsHistogram hist (counted_in set index (drop first told))
count_all hist ranges set index first i told all c = let e = take_all i told all in rw e at c.counts

-- ---- the notes of a thread's handler

at_handler : {X : Type 0} (told : X → List Note) (handlers : List X) (t : ℕ) (x : X) → t < length handlers → x ≡ get_or handlers t x → slice_index_or (map told handlers) t [] ≡ told x
at_handler told [] t x small is = absurd (omega arith)
at_handler told (y ∷ ys) zero x small is = ap told (sym is)
at_handler told (y ∷ ys) (suc t) x small is = at_handler told ys t x (omega arith) is

no_handler : {X : Type 0} (told : X → List Note) (handlers : List X) (t : ℕ) → length handlers ≤ t → slice_index_or (map told handlers) t [] ≡ []
no_handler told [] t past = refl
no_handler told (y ∷ ys) zero past = absurd (omega arith)
no_handler told (y ∷ ys) (suc t) past = no_handler told ys t (omega arith)

drop_nothing : (n : ℕ) (notes : List Note) → notes ≡ [] → drop n notes ≡ []
drop_nothing zero notes e = e
drop_nothing (suc n) notes e = rw e refl

pub of_handler : {X : Type 0} (told : X → List Note) (handlers : List X) (noted : List ℕ) (t : ℕ) (x : X) (hist : HistText) (set index : ℕ) → t < length handlers → x ≡ get_or handlers t x →
    IsHistogram hist (counted_in set index (drop (slice_index_or noted t 0) (told x))) → IsHistogram hist (counted_in set index (drop (slice_index_or noted t 0) (slice_index_or (map told handlers) t [])))
of_handler told handlers noted t x hist set index small is h = rw (at_handler told handlers t x small is) h

pub of_none : {X : Type 0} (told : X → List Note) (handlers : List X) (noted : List ℕ) (t : ℕ) (hist : HistText) (set index : ℕ) → length handlers ≤ t →
    IsHistogram hist [] → IsHistogram hist (counted_in set index (drop (slice_index_or noted t 0) (slice_index_or (map told handlers) t [])))
of_none told handlers noted t hist set index past h = rw (drop_nothing (slice_index_or noted t 0) (slice_index_or (map told handlers) t []) (no_handler told handlers t past)) h

-- ---- what is said of a run

-- what a handler was told since its notes were counted
told_since : (before given after : List (List Note)) (t : ℕ) → length given ≡ length before → EachAdded before given after →
    drop (slice_index_or (note_counts before) t 0) (slice_index_or after t []) ≡ slice_index_or given t []
told_since [] [] [] t same h = refl
told_since [] [] (a ∷ after) t same h = absurd (let e = h.same_length in omega arith)
told_since [] (g ∷ given) after t same h = absurd (omega arith)
told_since (b ∷ before) [] after t same h = absurd (omega arith)
told_since (b ∷ before) (g ∷ given) [] t same h = absurd (let e = h.same_length in omega arith)
told_since (b ∷ before) (g ∷ given) (a ∷ after) zero same h = let first : a ≡ b ++ g = h.added 0 (omega arith) in rw first (drop-append_seam b g)
told_since (b ∷ before) (g ∷ given) (a ∷ after) (suc t) same h =
    told_since before given after t (omega arith) (record { same_length = let e = h.same_length in omega arith; added = λ k small. h.added (suc k) (omega arith) })

abbrev pub counted_since : ProfilWords → List ℕ → List (List Note) → List ℕ
counted_since words counts after = counted_in words.set words.index (drop (slice_index_or counts words.thread 0) (slice_index_or after words.thread []))

said_is : {X : Type 0} (told : X → List Note) (handlers : Vec X Global) (after : List (List Note)) (words : ProfilWords) (given : GivenRun) (ranges : List RangeText) (lines : List ReplyLine) (marks : List (Option Ended)) (counts : List ℕ) →
    vec_len handlers ≡ 64 → lines ≡ ran_replies given → marks ≡ marks_in lines → counts ≡ note_counts (map told handlers.items) → EachAdded (map told handlers.items) (ran_notes given) after →
    (profiled_verdict words ranges given).said ≡ profile_said ranges marks (counted_since words counts after)
unfolding profiled_verdict
said_is told handlers after words given ranges lines marks counts n l m c h =
    sym (ap (λ ks. profile_said ranges marks (counted_since words ks after)) c
    ∙ ap (λ ns. profile_said ranges marks (counted_in words.set words.index ns)) (told_since (map told handlers.items) (ran_notes given) after words.thread (as_many told handlers given n) h)
    ∙ ap (λ ms. profile_said ranges ms (counted_in words.set words.index (slice_index_or (ran_notes given) words.thread []))) (m ∙ ap marks_in l))

-- what is said of a run is what the definition says
pub said_told : {X : Type 0} (told : X → List Note) (handlers : Vec X Global) (after : List (List Note)) (words : ProfilWords) (given : GivenRun) (ranges : List RangeText) (lines : List ReplyLine) (marks : List (Option Ended)) (counts : List ℕ) (answer : Result Said Stop) →
    vec_len handlers ≡ 64 → lines ≡ ran_replies given → marks ≡ marks_in lines → counts ≡ note_counts (map told handlers.items) → EachAdded (map told handlers.items) (ran_notes given) after →
    Answers answer (Ok (profile_said ranges marks (counted_since words counts after))) → AnswersSaid answer (Ok (profiled_verdict words ranges given))
said_told told handlers after words given ranges lines marks counts answer n l m c h e =
    says_same answer (profile_said ranges marks (counted_since words counts after)) (profiled_verdict words ranges given) e (said_is told handlers after words given ranges lines marks counts n l m c h)
