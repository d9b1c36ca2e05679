-- What `papi_run` comes to is the run of a script that was read, so each reply and note is that of the thread's own calls.
use Rattle.papi_tools.proofs.Words.{◌≡◌, ◌<◌, ℕ, List, Result, Ok, Err, refl, sym, ap, ◌∙◌, subst, THREADS, CatalogView, numbered, Refused, IsScript}
use Rattle.papi_tools.proofs.Words.{script_of, ScriptCause, ScriptLine, after_tables, catalog_under, lines_unless, script_in, script_under, Openings}
use Rattle.papi_tools.proofs.Words.{and_then, file_bytes, opened, RunsAreOwn, ran_of, ran_verdict, run_verdict, GivenRun, given_of, given_with}
use Rattle.papi_tools.proofs.Words.{streams_under, SCRIPT_BYTES, Refusal}
use Rattle.papi_tools.specs.declared.refusal.FileCause.TheVariants as cause
use Rattle.papi_tools.proofs.KeptLemmas.{scripts_are_kept}
use Rattle.papi_tools.proofs.OwnReplyLemmas.{notes_are_own, replies_are_own}

-- both steps of a value that comes of two
both_given : {A B : Type 0} (one : Result A Refusal) (next : A → Result B Refusal) (value : B) → and_then one next ≡ Ok value → (x : A) × (one ≡ Ok x) × (next x ≡ Ok value)
both_given (Ok x) next value e = (x, refl, e)
both_given (Err refusal) next value e = cc

-- the lines of a file are what its bytes are
read_of : (name : List ℕ) (read : Result (List ScriptLine) (Refused ScriptCause)) (script : List ScriptLine) → lines_unless cause.Line name read ≡ Ok script → read ≡ Ok script
read_of name (Ok lines) script e = let same : lines ≡ script = cc in ap Ok same
read_of name (Err refused) script e = cc

script_kept : (openings : Openings) (name : List ℕ) (script : List ScriptLine) → script_under openings name ≡ Ok script → IsScript script
script_kept openings name script e =
    let read = both_given (file_bytes SCRIPT_BYTES openings name) (script_in name) script e in
    scripts_are_kept read.0 script (read_of name (script_of read.0) script read.2)

given_kept : (catalog : CatalogView) (name : List ℕ) (streams : List (List ℕ)) (openings : Openings) (given : GivenRun)
    → given_of catalog (λ o. script_under o name) streams openings ≡ Ok given → IsScript given.script
given_kept catalog name streams openings given e =
    let read = both_given (script_under openings name) (λ script. given_with catalog streams script (opened openings)) given e in
    let told = both_given (streams_under (opened openings) streams) (λ s. Ok (let g : GivenRun = record { catalog = catalog; script = read.0; streams = s } in g)) given read.2 in
    let same : (let g : GivenRun = record { catalog = catalog; script = read.0; streams = told.0 } in g) ≡ given = cc told.2 in
    subst (λ (g : GivenRun). IsScript g.script) same (script_kept openings name read.0 read.1)

pub runs_are_own : RunsAreOwn
unfolding run_verdict
runs_are_own openings words verdict e =
    let tables = both_given (catalog_under openings words.unit words.presets) (λ catalog. ran_of words catalog (after_tables words.presets openings)) verdict e in
    let gives : Openings → Result (List ScriptLine) Refusal = λ o. script_under o words.script in
    let ran = both_given (given_of tables.0 gives words.streams (after_tables words.presets openings)) (λ given. Ok (ran_verdict words.notes given)) verdict tables.2 in
    let given : GivenRun = ran.0 in
    let kept : IsScript given.script = given_kept tables.0 words.script words.streams (after_tables words.presets openings) given ran.1 in
    let is : ran_verdict words.notes given ≡ verdict = cc ran.2 in (
      given,
      record {
        is_given = ap (λ (r : Result CatalogView Refusal). and_then r (λ catalog. given_of catalog gives words.streams (after_tables words.presets openings))) tables.1 ∙ ran.1;
        is_verdict = sym is;
        replies = λ i l c here asks. replies_are_own given i l c (numbered (λ k. k.thread < THREADS) given.script kept.threads i l here) here asks;
        notes = notes_are_own given;
      },
    )
