-- What is said of the regions of a program: the report by what was read, or the first event that is refused.
use Rattle.papi_tools.proofs.Words.{◌≡◌, ◌∙◌, ◌++◌, ◌≤◌, ◌<◌, ◌+◌, ℕ, ℤ, Bool, true, false, List, [], ◌∷◌, All, length, take, Option, IfOk, Result}
use Rattle.papi_tools.proofs.Words.{Ok, Err, refl, sym, ap, ap₂, get_or, subst, arith, Vec, Global, vec_len, is_ok, flat_map-append, take_more}
use Rattle.papi_tools.proofs.Words.{all_taken, chooser_text, given_set, refused_text, text_of, Candidates, CatalogView, marks_in, ReplyLine}
use Rattle.papi_tools.proofs.Words.{some-streams, AreBegun, ScriptsAreBegun, ScriptIsLookedUp, AllFit, SpansByPosition, IsRegions, report_text}
use Rattle.papi_tools.proofs.Words.{regions_of, spans_from, RegionCause, RegionLine, Refused, ScriptLine, Ended, ReaderView, Answers, IsExpected}
use Rattle.papi_tools.proofs.Words.{lines_unless, regions_in, marked_said, GivenRegions, calls_of, counted_said, readings_in, regions_said, said_with}
use Rattle.papi_tools.proofs.Words.{values_in, CanBeGivenRun, GivenRun, ran_replies, text_said, Stop, Said}
use Rattle.tool_output.specs.Choosing as Choosing
use Rattle.region_report.specs.CallLines as Calls
use Rattle.region_report.specs.CallLines.{asked, numbered}
use Rattle.tool_words.specs.EventList as Words
use Rattle.papi_tools.specs.declared.refusal.FileCause.TheVariants as cause
use Rattle.papi_tools.specs.declared.refusal.Stop.TheVariants as stop
use Rattle.papi_tools.proofs.PositionLemmas.{by_position}

-- the events of the words are words of a script
pub are_events : (events texts : List (List ℕ)) → texts ≡ events → Words.AreEvents events → Calls.AreEvents texts
are_events events texts e h = rw e (record { few = h.few; each = h.each })

-- one reply more
pub reading_more : (lines : List ReplyLine) (i : ℕ) (line : ReplyLine) (now next : List (List ℤ)) → i < length lines → line ≡ get_or lines i line →
    next ≡ now ++ readings_in (line ∷ []) → now ≡ readings_in (take i lines) → next ≡ readings_in (take (i + 1) lines)
reading_more lines i line now next small is step so_far =
    step ∙ ap (λ rs. rs ++ readings_in (line ∷ [])) so_far
    ∙ sym (ap readings_in (take_more lines i line small ∙ ap (λ l. take i lines ++ l ∷ []) (sym is)) ∙ flat_map-append (λ (l : ReplyLine). values_in l.reply.body) (take i lines) (line ∷ []))

-- the calls that the region script asks for are what is given to the run
pub are_calls : (catalog : CatalogView) (lines : List RegionLine) (script : List ScriptLine) (readers : List ReaderView) (events : List (List ℕ)) (given : GivenRun) → CanBeGivenRun catalog script readers given →
    script ≡ numbered 1 (asked lines events) → given ≡ calls_of events (let regions : GivenRegions = record { catalog = catalog; script = lines; streams = given.streams } in regions)
are_calls catalog lines script readers events given is e =
    ap₂ (λ k ls. record { catalog = k; script = ls; streams = given.streams }) (sym is.catalog_is) (sym is.script_is ∙ e)

-- the script of calls as it is read
pub script_is : (lines : List RegionLine) (texts events : List (List ℕ)) (calls : List ScriptLine) → texts ≡ events → IsExpected calls (Ok (numbered 1 (asked lines texts))) → calls ≡ numbered 1 (asked lines events)
script_is lines texts events calls e h = let s : numbered 1 (asked lines texts) ≡ calls = cc h in sym s ∙ ap (λ ts. numbered 1 (asked lines ts)) e

-- ---- the events

refused_by : (catalog : CatalogView) (events : List (List ℕ)) (given : GivenRegions) (which : Candidates) (g : Choosing.GivenSet) → is_ok g ≡ false → catalog ≡ given.catalog →
    said_with events given g ≡ text_said false (text_of catalog which g)
refused_by catalog events given which (Ok s) e same = absurd cc
refused_by catalog events given which (Err r) e same = ap (λ k. text_said false (refused_text k r)) (sym same)

-- the first event that is refused
pub refused_said : (catalog : CatalogView) (events : List (List ℕ)) (given : GivenRegions) (which : Candidates) (taken : Bool) (said : Said) (text : List ℕ) → catalog ≡ given.catalog →
    taken ≡ all_taken catalog events → taken ≡ false → text ≡ chooser_text catalog which events → said ≡ text_said false text → Answers (Ok said) (Ok (regions_said events given))
unfolding regions_said
refused_said catalog events given which taken said text same is refused t e =
    ap Ok (ap (λ k. said_with events given (given_set k events)) (sym same) ∙ refused_by catalog events given which (given_set catalog events) (sym is ∙ refused) same ∙ sym (e ∙ ap (text_said false) t))

taken_by : (events : List (List ℕ)) (given : GivenRegions) (g : Choosing.GivenSet) → is_ok g ≡ true → said_with events given g ≡ counted_said events given
taken_by events given (Ok s) e = refl
taken_by events given (Err r) e = absurd cc

all_named : (catalog : CatalogView) (events : List (List ℕ)) (given : GivenRegions) (taken : Bool) → catalog ≡ given.catalog → taken ≡ all_taken catalog events → taken ≡ true → is_ok (given_set given.catalog events) ≡ true
all_named catalog events given taken same is named = ap (λ k. all_taken k events) (sym same) ∙ sym is ∙ named

counted_by : (events : List (List ℕ)) (given : GivenRegions) → is_ok (given_set given.catalog events) ≡ true → regions_said events given ≡ counted_said events given
unfolding regions_said
counted_by events given named = taken_by events given (given_set given.catalog events) named

-- the report, if all are taken
pub counted_told : ScriptIsLookedUp → SpansByPosition → (catalog : CatalogView) (lines : List RegionLine) (events : List (List ℕ)) (given : GivenRegions) (taken : Bool) (replies : List ReplyLine) (marks : List (Option Ended))
    (answer : Result Said Stop) → catalog ≡ given.catalog → lines ≡ given.script → IsRegions lines → AreBegun lines → 1 ≤ length events → taken ≡ all_taken catalog events → taken ≡ true →
    replies ≡ ran_replies (calls_of events given) → marks ≡ marks_in replies → IfOk answer (λ _. AllFit (readings_in replies)) →
    Answers answer (Ok (marked_said marks (report_text (length events) (spans_from (readings_in replies) 0 lines)))) → Answers answer (Ok (regions_said events given))
counted_told script_law span_law catalog lines events given taken replies marks (Ok said) catalog_is lines_are kept begun some t named r m fit h =
    let same : marked_said marks (report_text (length events) (spans_from (readings_in replies) 0 lines)) ≡ said = cc h in
    let each = all_named catalog events given taken catalog_is t named in
    let spans =
    ap₂ (λ rs ls. spans_from (readings_in rs) 0 ls) r lines_are
    ∙ by_position script_law span_law events given (subst (λ (ls : List RegionLine). All (λ l. l.thread < 64) ls) lines_are kept.threads) (subst AreBegun lines_are begun) some each
    (subst (λ (rs : List ReplyLine). AllFit (readings_in rs)) r fit) in
    ap Ok (counted_by events given each ∙ sym (sym same ∙ ap₂ (λ ms ss. marked_said ms (report_text (length events) ss)) (m ∙ ap marks_in r) spans))
counted_told script_law span_law catalog lines events given taken replies marks (Err (stop.Refused refusal)) catalog_is lines_are kept begun some t named r m fit h = absurd cc
counted_told script_law span_law catalog lines events given taken replies marks (Err stop.Memory) catalog_is lines_are kept begun some t named r m fit h = tt

-- ---- if nothing is run

pub nothing_counted : (catalog : CatalogView) (lines : List RegionLine) (readers : Vec ReaderView Global) (events : List (List ℕ)) (answer : Result Said Stop) → vec_len readers ≡ 64 →
    ((given : GivenRegions) → catalog ≡ given.catalog → Answers answer (Ok (regions_said events given))) → (given : GivenRegions) × CanBeGivenRun catalog lines readers.items given × Answers answer (Ok (regions_said events given))
nothing_counted catalog lines readers events answer many said =
    let (streams, can) = some-streams readers.items (omega (arith, many)) in
    let given : GivenRegions = record { catalog = catalog; script = lines; streams = streams } in
    (given, record { catalog_is = refl; script_is = refl; can_come = can }, said given refl)

-- memory ran out
pub starved : (catalog : CatalogView) (lines : List RegionLine) (readers : Vec ReaderView Global) (events : List (List ℕ)) (answer : Result Said Stop) → vec_len readers ≡ 64 → answer ≡ Err stop.Memory →
    (given : GivenRegions) × CanBeGivenRun catalog lines readers.items given × Answers answer (Ok (regions_said events given))
starved catalog lines readers events answer many same = rw same (nothing_counted catalog lines readers events (Err stop.Memory) many (λ given is. tt))

-- the script of calls is not refused, so memory ran out
pub out_of_memory : {A B : Type 0} (s : Stop) (x : A) (y : B) → Answers (Err s) (Ok x) → Answers (Err s) (Ok y)
out_of_memory (stop.Refused refusal) x y h = absurd cc
out_of_memory stop.Memory x y h = tt

-- the lines of a region script name the readings at which their regions began
pub begun_of : ScriptsAreBegun → (lines : List RegionLine) → (name bytes : List ℕ) × (regions_in name bytes ≡ Ok lines) → AreBegun lines
begun_of law lines (name, bytes, is) = by_lines (regions_of bytes) refl is
  where
    by_lines : (read : Result (List RegionLine) (Refused RegionCause)) → regions_of bytes ≡ read → lines_unless cause.RegionLine name read ≡ Ok lines → AreBegun lines
    by_lines (Ok some) e h = let same : some ≡ lines = cc h in law bytes lines (e ∙ ap Ok same)
    by_lines (Err refused) e h = absurd cc
