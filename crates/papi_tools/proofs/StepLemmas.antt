-- A tool whose verdict is made of what its steps gave: what is said and told is what is expected.
use Rattle.papi_tools.proofs.Words.{◌≡◌, ◌∙◌, ℕ, List, [], Option, IfOk, Result, Ok, Err, refl, Note, EachAdded, Held, CatalogView, PresetWords}
use Rattle.papi_tools.proofs.Words.{Answers, Ends, ForSome, Is, Leads, Openings, Stops, Verdict, and_then, quiet, Shows, after_tables, catalog_under}
use Rattle.papi_tools.proofs.Words.{AnswersSaid, ComesTo, TellsBy, ToolTells, notes_in, Refusal, Stop, Said}
use Rattle.papi_tools.specs.declared.refusal.Stop.TheVariants as stop
use Rattle.papi_tools.proofs.FindingLemmas.{so_after, so_at_end, some_openings}
use Rattle.papi_tools.proofs.TellingLemmas.{added_begun, none_added, none_begun, none_grown}

stops_at : (s : Stop) (gives : Openings → Result Verdict Refusal) (held : Option Held) (lists : List (List Note)) → Stops s gives held → ForSome held (λ o. ComesTo (Err s) (gives o) lists lists)
stops_at (stop.Refused refusal) gives held lists one =
    let (o, can, gave) = one in
    (o, can, rw gave (record { said = refl; told = none_added lists [] refl }))
stops_at stop.Memory gives held lists one =
    let (o, can) = some_openings held in
    (o, can, record { said = tt; told = none_begun lists (notes_in (gives o)) })

-- a step that failed ends the call, and nothing is told
pub stopped : (s : Stop) (gives : Openings → Result Verdict Refusal) (held : Option Held) (faults faults' : ℕ) (MaySayNo : Type 0) (lists : List (List Note)) → Stops s gives held → ToolTells held faults faults' (Err s) gives MaySayNo lists lists
stopped s gives held faults faults' MaySayNo lists one = record { ran = stops_at s gives held lists one; grown = none_grown lists; shows = tt }

-- what is told after a step that gave a value
pub tells_after : {A : Type 0} (value : A) (answer : Result Said Stop) (gives : Openings → Result A Refusal) (next : A → Openings → Result Verdict Refusal) (rest : Openings → Openings) (held mid : Option Held)
    (faults faults' : ℕ) (MaySayNo : Type 0) (before after : List (List Note)) → Leads Is (Ok value) gives rest held mid → ToolTells mid faults faults' answer (next value) MaySayNo before after →
    ToolTells held faults faults' answer (λ o. and_then (gives o) (λ v. next v (rest o))) MaySayNo before after
tells_after value answer gives next rest held mid faults faults' MaySayNo before after one two =
    record { ran = so_after (λ e. ComesTo answer e before after) value gives next rest held mid one two.ran; grown = two.grown; shows = two.shows }

-- after the tables
pub with_catalog : (unit : List ℕ) (presets : Option PresetWords) (catalog : CatalogView) (answer : Result Said Stop) (next : CatalogView → Openings → Result Verdict Refusal) (held mid : Option Held) (faults faults' : ℕ)
    (MaySayNo : Type 0) (before after : List (List Note)) → Leads Is (Ok catalog) (λ o. catalog_under o unit presets) (after_tables presets) held mid → ToolTells mid faults faults' answer (next catalog) MaySayNo before after →
    ToolTells held faults faults' answer (λ o. and_then (catalog_under o unit presets) (λ k. next k (after_tables presets o))) MaySayNo before after
with_catalog unit presets catalog answer next = tells_after catalog answer (λ o. catalog_under o unit presets) next (after_tables presets)

-- and after the last step that opens files
pub comes_at_end : {I X : Type 0} (CanBe : I → X → Type 0) (input : I) (gives : Openings → Result X Refusal) (verdict : X → Verdict) (held : Option Held) (before after : List (List Note)) (answer : Result Said Stop) →
    Ends CanBe (Ok input) gives held → ((x : X) × CanBe input x × ComesTo answer (Ok (verdict x)) before after) → ForSome held (λ o. ComesTo answer (and_then (gives o) (λ x. Ok (verdict x))) before after)
comes_at_end CanBe input gives verdict held before after answer ends some = so_at_end (λ e. ComesTo answer e before after) CanBe input gives verdict held ends some

-- ---- what is told

-- all notes are told, whatever is said
pub tells_all : (answer : Result Said Stop) (given before after : List (List Note)) → EachAdded before given after → TellsBy answer given before after
tells_all (Ok said) given before after h = h
tells_all (Err (stop.Refused refusal)) given before after h = h
tells_all (Err stop.Memory) given before after h = added_begun before given after h

-- what is said is what is expected
pub says_same : (answer : Result Said Stop) (said : Said) (verdict : Verdict) → Answers answer (Ok said) → verdict.said ≡ said → AnswersSaid answer (Ok verdict)
says_same (Ok x) said verdict h e = let same : said ≡ x = cc h in e ∙ same
says_same (Err (stop.Refused refusal)) said verdict h e = absurd cc
says_same (Err stop.Memory) said verdict h e = tt

-- ---- a tool that tells no handler anything

by_answer : (answer : Result Said Stop) (expected : Result Said Refusal) → Answers answer expected → AnswersSaid answer (quiet expected)
by_answer (Ok said) expected h = let e : expected ≡ Ok said = h in rw e refl
by_answer (Err (stop.Refused refusal)) expected h = let e : expected ≡ Err refusal = h in rw e refl
by_answer (Err stop.Memory) expected h = tt

no_notes : (expected : Result Said Refusal) → notes_in (quiet expected) ≡ []
no_notes (Ok said) = refl
no_notes (Err refusal) = refl

quiet_comes : (held : Option Held) (answer : Result Said Stop) (expected : Openings → Result Said Refusal) (lists : List (List Note)) →
    ForSome held (λ o. Answers answer (expected o)) → ForSome held (λ o. ComesTo answer (quiet (expected o)) lists lists)
quiet_comes held answer expected lists (o, can, h) =
    (o, can, record { said = by_answer answer (expected o) h; told = tells_all answer (notes_in (quiet (expected o))) lists lists (none_added lists (notes_in (quiet (expected o))) (no_notes (expected o))) })

pub quiet_tells : (held : Option Held) (faults faults' : ℕ) (answer : Result Said Stop) (expected : Openings → Result Said Refusal) (MaySayNo : Type 0) (lists : List (List Note)) → ForSome held (λ o. Answers answer (expected o)) →
    IfOk answer (λ said. Shows MaySayNo faults faults' said.outcome) → ToolTells held faults faults' answer (λ o. quiet (expected o)) MaySayNo lists lists
quiet_tells held faults faults' answer expected MaySayNo lists said shows = record { ran = quiet_comes held answer expected lists said; grown = none_grown lists; shows = shows }
