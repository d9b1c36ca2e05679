use Rattle.papi_tools.proofs.Words.{◌≡◌, Err, List, Ok, arith, refl, rules, ℕ, RegionLine, after_tables, catalog_under, regions_in, regions_under}
use Rattle.papi_tools.proofs.Words.{Answers, Is, counted_of, regions_said, regions_verdict, CanBeGivenRun, given_of}
use Rattle.papi_tools.proofs.FindingLemmas.{failed, failed_after, refused, refused_first, so_after, so_at_end}
use Rattle.papi_tools.proofs.HoldingLemmas.{both_held, held_then}
use Rattle.papi_tools.proofs.RunLemmas.{shows_later}
use Rattle.papi_tools.proofs.region_counts.count_regions.Goals as goal

read_as : (lines : List RegionLine) (name : List ℕ) → (bytes : List ℕ) × (regions_in name bytes ≡ Ok lines) → (n bytes : List ℕ) × (regions_in n bytes ≡ Ok lines)
read_as lines name (bytes, is) = (name, bytes, is)

pub count-answer-requires-clause-read : goal.count-answer-requires-clause-read
count-answer-requires-clause-read g c κs lives = read_as c.in_ok-input.input.script c.args.words.now.script c.in_ok-input.ensures.read

pub returns-in_err-catalog-clause-said : goal.returns-in_err-catalog-clause-said
unfolding regions_verdict
returns-in_err-catalog-clause-said g c =
    let words = c.args.words.now in
    refused_first c.from_residual.result c.in_err-catalog.field-0.0 (λ o. catalog_under o words.unit words.presets) (λ o catalog. counted_of words catalog (after_tables words.presets o)) _ (search rules) (rw c.as_ref.ensures.value at c.in_err-catalog.ensures.found)

pub returns-in_err-input-clause-said : goal.returns-in_err-input-clause-said
unfolding regions_verdict
returns-in_err-input-clause-said g c =
    let words = c.args.words.now in
    let catalog = c.in_ok-catalog.catalog in
    let same : c.from_residual-in_err-input.result ≡ Err c.in_err-input.field-0.0 = search rules in
    rw same (refused c.in_err-input.field-0.0 (λ o. regions_verdict o words) _
    (failed_after Is catalog catalog c.in_err-input.field-0.0 (λ o. catalog_under o words.unit words.presets) (λ k. counted_of words k) (after_tables words.presets) _ _ (rw c.as_ref.ensures.value at c.in_ok-catalog.ensures.found) refl
    (failed c.in_err-input.field-0.0 (given_of catalog (λ o. regions_under o words.script) words.streams) (λ o given. Ok (regions_said words.events given)) _ (rw c.as_slice.ensures.names at c.in_err-input.ensures.found catalog))))

pub returns-clause-said : goal.returns-clause-said
unfolding regions_verdict
returns-clause-said g c =
    let words = c.args.words.now in
    let catalog = c.in_ok-catalog.catalog in
    let input = c.in_ok-input.input in
    so_after (λ e. Answers c.count-answer.result e) catalog (λ o. catalog_under o words.unit words.presets) (λ k. counted_of words k) (after_tables words.presets) _ _ (rw c.as_ref.ensures.value at c.in_ok-catalog.ensures.found)
    (so_at_end (λ e. Answers c.count-answer.result e) (λ (x : Unit {0}) given. CanBeGivenRun catalog input.script input.readers.items given) tt (given_of catalog (λ o. regions_under o words.script) words.streams) (regions_said words.events) _
    (rw c.as_slice.ensures.names at c.in_ok-input.ensures.found catalog) c.count-answer.ensures.counted)

pub returns-clause-shows : goal.returns-clause-shows
returns-clause-shows g c =
    shows_later (Unit {0}) _ _ _ c.count-answer.result (let h = c.in_ok-catalog.ensures.looked.faults_stay in let k = c.in_ok-input.ensures.looked.faults_stay in omega arith) c.close_readers.ensures.faults_stay
    (c.count-answer.ensures.shows _ _ c.close_readers.ensures.faulty)

pub returns-in_err-input-clause-held : goal.returns-in_err-input-clause-held
returns-in_err-input-clause-held g c = both_held _ _ _ c.in_ok-catalog.ensures.held c.in_err-input.ensures.held

pub returns-clause-held : goal.returns-clause-held
returns-clause-held g c = held_then _ _ _ (both_held _ _ _ c.in_ok-catalog.ensures.held c.in_ok-input.ensures.held) c.close_readers.ensures.held
