-- What is said of a run is what the definition says.
use Rattle.std.proofs.Common.{◌≡◌, ◌<◌, ◌≤◌, ◌+◌, ℕ, zero, suc, Bool, true, false, List, [], ◌∷◌, length, map, Option, Some, None, IfOk, Result, Ok, Err, Vec, Global, vec_len, refl, sym, ap, ap₂, ◌∙◌, arith, All, cond, if◌then◌else◌, inl, inr, is_some, slice_index_or, zero-add}
use Rattle.papi_tools.proofs.Words.{length-map, range_with_len, option_map, option_map_or, Widths, Book, Note, EachAdded, told_since, added_is_told}
use Rattle.papi_tools.proofs.Words.{Rose, LineTold, notes_of_thread, Ended, ReaderView, SourceView, FaultsKept, FaultsRose, IsFaultReply, fault_count}
use Rattle.papi_tools.proofs.Words.{CatalogView, shape_of, ScriptLine, PlanLine, ReplyLine, marks_in, IsPlanOf, AllKept, IsPlannedAndTold}
use Rattle.papi_tools.proofs.Words.{IsPlannedFrom, reply_lines, some-streams, lines_of, reply_lines_of, setting_of, Answers, Shows, marked_said}
use Rattle.papi_tools.proofs.Words.{outcome_at, ran_verdict, run_said, shown_notes, CanBeGivenRun, GivenOf, GivenRun, IsGivenRun, note_counts}
use Rattle.papi_tools.proofs.Words.{ran_notes, ran_replies, told_in, SomeFailed, sources_in, AnswersSaid, Stop, Said, Outcome, No, ReadFault}
use Rattle.papi_tools.proofs.FaultLemmas.{SomeFault, fault_replied, never_no}
use Rattle.papi_tools.proofs.StreamLemmas.{sources_in-append}
use Rattle.papi_tools.proofs.StepLemmas.{says_same}

-- ---- the run of a script

-- the readers tell what is given
pub tells : (catalog : CatalogView) (script : List ScriptLine) (given : GivenRun) (book : Book) (shape : Widths) (plan : List PlanLine) (readers : List ReaderView) →
    IsGivenRun catalog script readers given → book ≡ catalog.book → shape ≡ shape_of catalog.tables → IsPlanOf (setting_of catalog) (lines_of catalog script) plan →
    IsPlannedAndTold (setting_of given.catalog) (lines_of given.catalog given.script) given.streams book shape plan readers
tells catalog script given book shape plan readers is b w p = record {
  same_book = ap (λ (k : CatalogView). k.book) (sym is.catalog_is) ∙ sym b;
  same_shape = ap (λ (k : CatalogView). shape_of k.tables) (sym is.catalog_is) ∙ sym w;
  looked_up = let c : catalog ≡ given.catalog = is.catalog_is in let s : script ≡ given.script = is.script_is in rw (c, s) at p;
  streams_told = is.told.each;
}

-- the plan is that of what is given
pub planned_from : (catalog : CatalogView) (script : List ScriptLine) (book : Book) (shape : Widths) (plan : List PlanLine) →
    book ≡ catalog.book → shape ≡ shape_of catalog.tables → IsPlanOf (setting_of catalog) (lines_of catalog script) plan → IsPlannedFrom (setting_of catalog) (lines_of catalog script) book shape plan
planned_from catalog script book shape plan b w p = record { same_book = sym b; same_shape = sym w; looked_up = p }

-- nothing was run
pub nothing_ran : (catalog : CatalogView) (script : List ScriptLine) (readers : List ReaderView) → length readers ≡ 64 → (given : GivenRun) × CanBeGivenRun catalog script readers given
nothing_ran catalog script readers long =
    let some = some-streams readers long in
    (record { catalog = catalog; script = script; streams = some.0 }, record { catalog_is = refl; script_is = refl; can_come = some.1 })

-- the replies beside the plan's lines are those beside the script's
pub replied : (given : GivenRun) (script : List ScriptLine) (plan : List PlanLine) (lines : List ReplyLine) → script ≡ given.script → lines ≡ reply_lines plan (told_in given) →
    ((told : List LineTold) → reply_lines plan told ≡ reply_lines_of script told) → lines ≡ ran_replies given
unfolding ran_replies
replied given script plan lines s e heads = e ∙ heads (told_in given) ∙ ap (λ ls. reply_lines_of ls (told_in given)) s

lengths_of : {X : Type 0} (told : X → List Note) (xs : List X) → map (λ x. length (told x)) xs ≡ note_counts (map told xs)
lengths_of told [] = refl
lengths_of told (x ∷ xs) = ap (λ ns. length (told x) ∷ ns) (lengths_of told xs)

pub counted : {X : Type 0} (told : X → List Note) (xs : List X) (counts : List ℕ) → counts ≡ map (λ x. length (told x)) xs → counts ≡ note_counts (map told xs)
counted told xs counts e = e ∙ lengths_of told xs

-- ---- faults and sources

rose_above : (old new : ℕ) → Rose old new → 0 < new
rose_above old new (inl h) = omega arith
rose_above old new (inr h) = omega arith

rose_some : (old new : Option ℕ) → FaultsRose old new → (n : ℕ) × (new ≡ Some n) × (0 < n)
rose_some (Some old) (Some new) h = (new, refl, rose_above old new h)
rose_some (Some old) None h = absurd h
rose_some None new h = absurd h

faults_by : (s : Option SourceView) (n : ℕ) → option_map (λ (v : SourceView). v.faults) s ≡ Some n → option_map_or (λ (v : SourceView). v.faults) s 0 ≡ n
faults_by None n e = cc
faults_by (Some v) n e = cc

failed_at : (readers : List ReaderView) (t n : ℕ) → slice_index_or (map fault_count readers) t None ≡ Some n → 0 < n → SomeFailed readers
failed_at [] t n e h = cc
failed_at (r ∷ rs) zero n e h = (0, r, omega arith, refl, rw (faults_by r.source n e) h)
failed_at (r ∷ rs) (suc t) n e h =
    let (k, x, small, is, p) = failed_at rs t n e h in
    (suc k, x, omega arith, is, p)

-- a reply of a fault comes if some source has failed
pub faulty : (before : List (Option ℕ)) (readers : List ReaderView) (lines : List ReplyLine) →
    All (λ l. IsFaultReply l.reply → FaultsRose (slice_index_or before l.thread None) (slice_index_or (map fault_count readers) l.thread None)) lines → SomeFault lines → SomeFailed readers
faulty before readers lines each (k, l, small, is, h) =
    let here : IsFaultReply l.reply → FaultsRose (slice_index_or before l.thread None) (slice_index_or (map fault_count readers) l.thread None) = rw is at (each k l small) in
    let (n, e, above) = rose_some (slice_index_or before l.thread None) (slice_index_or (map fault_count readers) l.thread None) (here h) in
    failed_at readers l.thread n e above

sources_cons : (r : ReaderView) (rs : List ReaderView) → sources_in (r ∷ rs) ≡ cond (is_some r.source) 1 0 + sources_in rs
sources_cons r rs = sources_in-append (r ∷ []) rs ∙ ap (λ n. n + sources_in rs) (zero-add (cond (is_some r.source) 1 0))

same_source : (b a : Option SourceView) → FaultsKept (option_map (λ (v : SourceView). v.faults) b) (option_map (λ (v : SourceView). v.faults) a) → is_some a ≡ is_some b
same_source None None h = refl
same_source None (Some v) h = absurd h
same_source (Some v) None h = absurd h
same_source (Some v) (Some w) h = refl

-- the readers that had a source have one
pub sources_kept : (before after : List ReaderView) → AllKept (map fault_count before) (map fault_count after) → sources_in after ≡ sources_in before
sources_kept [] [] h = refl
sources_kept [] (a ∷ as') h = absurd (let e = h.same_length in omega arith)
sources_kept (b ∷ bs) [] h = absurd (let e = h.same_length in omega arith)
sources_kept (b ∷ bs) (a ∷ as') h =
    let rest : AllKept (map fault_count bs) (map fault_count as') = record { same_length = let e = h.same_length in omega arith; each = λ t. h.each (suc t) } in
    sources_cons a as' ∙ ap (λ x. cond x 1 0 + sources_in as') (same_source b.source a.source (h.each 0)) ∙ ap (λ n. cond (is_some b.source) 1 0 + n) (sources_kept bs as' rest) ∙ sym (sources_cons b bs)

-- ---- what is said of it

-- there is a list of notes for each of the 64 threads, as there are handlers
pub as_many : {X : Type 0} (told : X → List Note) (handlers : Vec X Global) (given : GivenRun) → vec_len handlers ≡ 64 → length (ran_notes given) ≡ length (map told handlers.items)
unfolding ran_notes
as_many told handlers given h =
    let all : length handlers.items ≡ 64 = omega (arith, h) in
    length-map (range_with_len 0 64) (λ t. notes_of_thread t (told_in given)) ∙ sym (length-map handlers.items told ∙ all)

since : (wanted : Bool) (counts : List ℕ) (before given after : List (List Note)) → counts ≡ note_counts before → length given ≡ length before → EachAdded before given after →
    (if wanted then told_since counts after else []) ≡ shown_notes wanted given
since false counts before given after e same h = refl
since true counts before given after e same h = ap (λ ks. told_since ks after) e ∙ added_is_told before given after same h

said_is : {X : Type 0} (told : X → List Note) (handlers : Vec X Global) (after : List (List Note)) (given : GivenRun) (wanted : Bool) (lines : List ReplyLine) (marks : List (Option Ended)) (counts : List ℕ) (said : Said) →
    vec_len handlers ≡ 64 → lines ≡ ran_replies given → marks ≡ marks_in lines → counts ≡ note_counts (map told handlers.items) → EachAdded (map told handlers.items) (ran_notes given) after →
    said ≡ run_said given.catalog lines marks (if wanted then told_since counts after else []) → (ran_verdict wanted given).said ≡ said
unfolding ran_verdict
said_is told handlers after given wanted lines marks counts said n l m c h e =
    sym (e
    ∙ ap (run_said given.catalog lines marks) (since wanted counts (map told handlers.items) (ran_notes given) after c (as_many told handlers given n) h)
    ∙ ap (λ ms. run_said given.catalog lines ms (shown_notes wanted (ran_notes given))) m
    ∙ ap (λ ls. run_said given.catalog ls (marks_in ls) (shown_notes wanted (ran_notes given))) l)

-- what is said of a run is what the definition says
pub said_told : {X : Type 0} (told : X → List Note) (handlers : Vec X Global) (after : List (List Note)) (given : GivenRun) (catalog : CatalogView) (wanted : Bool) (lines : List ReplyLine) (marks : List (Option Ended)) (counts : List ℕ) (answer : Result Said Stop) →
    vec_len handlers ≡ 64 → catalog ≡ given.catalog → lines ≡ ran_replies given → marks ≡ marks_in lines → counts ≡ note_counts (map told handlers.items) → EachAdded (map told handlers.items) (ran_notes given) after →
    Answers answer (Ok (run_said catalog lines marks (if wanted then told_since counts after else []))) → AnswersSaid answer (Ok (ran_verdict wanted given))
said_told told handlers after given catalog wanted lines marks counts answer n k l m c h e =
    says_same answer (run_said catalog lines marks (if wanted then told_since counts after else [])) (ran_verdict wanted given) e
    (said_is told handlers after given wanted lines marks counts (run_said catalog lines marks (if wanted then told_since counts after else [])) n l m c h
    (ap (λ x. run_said x lines marks (if wanted then told_since counts after else [])) k))

-- what runs met shows in how a call ends
shows_met : (MaySayNo : Type 0) (lines : List ReplyLine) (marks : List (Option Ended)) (before after : ℕ) → marks ≡ marks_in lines →
    (SomeFault lines → Rose before after) → (o : Outcome) → outcome_at marks ≡ o → Shows MaySayNo before after o
shows_met MaySayNo lines marks before after m h No e = absurd (never_no marks e)
shows_met MaySayNo lines marks before after m h ReadFault e = h (fault_replied lines (rw m at e))
shows_met MaySayNo lines marks before after m h other e = tt

pub run_shows : (MaySayNo : Type 0) (lines : List ReplyLine) (marks : List (Option Ended)) (text : List ℕ) (before after : ℕ) (answer : Result Said Stop) → Answers answer (Ok (marked_said marks text)) →
    marks ≡ marks_in lines → (SomeFault lines → Rose before after) → IfOk answer (λ said. Shows MaySayNo before after said.outcome)
run_shows MaySayNo lines marks text before after (Ok said) e m h =
    let same : marked_said marks text ≡ said = cc e in
    rw (← same) (shows_met MaySayNo lines marks before after m h (outcome_at marks) refl)
run_shows MaySayNo lines marks text before after (Err s) e m h = tt

later : (MaySayNo : Type 0) (before between after : ℕ) (o : Outcome) → before ≤ between → between ≤ after → Shows MaySayNo between after o → Shows MaySayNo before after o
later MaySayNo before between after ReadFault small big h = let r : Rose between after = h in grind arith
later MaySayNo before between after other small big h = h

-- also if more was looked at before
pub shows_later : (MaySayNo : Type 0) (before between after : ℕ) (answer : Result Said Stop) → before ≤ between → between ≤ after → IfOk answer (λ said. Shows MaySayNo between after said.outcome) →
    IfOk answer (λ said. Shows MaySayNo before after said.outcome)
shows_later MaySayNo before between after (Ok said) small big h = later MaySayNo before between after said.outcome small big h
shows_later MaySayNo before between after (Err s) small big h = tt

-- what can be given is made of the catalog, the script and the streams
pub given_is : {A : Type 0} (catalog : CatalogView) (script : A) (readers : List ReaderView) (given : GivenOf A) → CanBeGivenRun catalog script readers given →
    (let made : GivenOf A = record { catalog = catalog; script = script; streams = given.streams } in made) ≡ given
given_is {A} catalog script readers given is = ap₂ (λ (k : CatalogView) (x : A). let made : GivenOf A = record { catalog = k; script = x; streams = given.streams } in made) is.catalog_is is.script_is
