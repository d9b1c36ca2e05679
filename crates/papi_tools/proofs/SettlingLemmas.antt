-- What a call says at the end of its steps is what is expected, and has its cause.
use Rattle.papi_tools.proofs.Words.{◌≡◌, ℕ, List, [], Option, None, Some, IfOk, IsOkAnd, Result, Ok, Err, refl, sym, ◌∙◌, subst, Held, Note}
use Rattle.papi_tools.proofs.Words.{EachBegun, Command, FilesSeen, HasFileCause, IsTextual, Looked, SaysNo, Shows, StopsByFile, outcome_of, ForSome}
use Rattle.papi_tools.proofs.Words.{Openings, Verdict, ComesTo, IsSettled, IsSettledAs, TellsBy, command_verdict, ended, notes_in, refused_said}
use Rattle.papi_tools.proofs.Words.{verdict_for, Refusal, BadWords, NoSuchFile, CannotRead, Stop, Said, Outcome}
use Rattle.papi_tools.specs.declared.refusal.Stop.TheVariants as stop
use Rattle.papi_tools.specs.declared.status.Outcome.TheVariants as outcome
use Rattle.papi_tools.proofs.FindingLemmas.{some_openings}
use Rattle.papi_tools.proofs.TellingLemmas.{added_begun, none_added, none_begun, same_notes}

-- ---- what is said, and what handlers are told

expected_said : (expected : Result Verdict Refusal) (answer said : Said) → IsOkAnd expected (λ verdict. verdict.said ≡ answer) → said ≡ answer → said ≡ (ended expected).said
expected_said (Ok verdict) answer said h e = e ∙ sym h
expected_said (Err refusal) answer said h e = absurd h

begun_by : (given before after : List (List Note)) (answer : Result Said Stop) → TellsBy answer given before after → EachBegun before given after
begun_by given before after (Ok answer) h = added_begun before given after h
begun_by given before after (Err (stop.Refused refusal)) h = added_begun before given after h
begun_by given before after (Err stop.Memory) h = h

settled_by : {E : Type 0} (expected : Result Verdict Refusal) (files files' : FilesSeen) (before after : List (List Note)) (answer : Result Said Stop) (result : Result Said E) → ComesTo answer expected before after →
    StopsByFile answer files files' → IfOk result (IsSettled answer) → IsSettledAs result expected files files' before after
settled_by expected files files' before after answer (Err error) h c s =
    record { said = tt; missing = tt; told = tt; begun = rw (← same_notes expected) (begun_by (notes_in expected) before after answer h.told) }
settled_by expected files files' before after (Ok answer) (Ok said) h c s = record {
  said = expected_said expected answer said h.said s;
  missing = λ name e. absurd (subst (λ (x : Result Verdict Refusal). IsOkAnd x (λ verdict. verdict.said ≡ answer)) e h.said);
  told = rw (← same_notes expected) h.told;
  begun = tt;
}
settled_by expected files files' before after (Err (stop.Refused refusal)) (Ok said) h c s =
    let refused : expected ≡ Err refusal = h.said in
    record {
      said = rw refused s;
      missing = λ name e.
          let both : Err refusal ≡ Err (NoSuchFile name) = sym refused ∙ e in
          let same : refusal ≡ NoSuchFile name = cc both in
          subst (λ (r : Refusal). HasFileCause files files' r) same c;
      told = rw (← same_notes expected) h.told;
      begun = tt;
    }
settled_by expected files files' before after (Err stop.Memory) (Ok said) h c s = absurd s

-- what the steps say and tell is what is expected of the words
pub settled_as : {E : Type 0} (held : Option Held) (asked : Option Command) (command : Command) (files files' : FilesSeen) (before after : List (List Note)) (answer : Result Said Stop) (result : Result Said E) → asked ≡ Some command →
    ForSome held (λ o. ComesTo answer (command_verdict o command) before after) → Looked answer 0 files files' → IfOk result (IsSettled answer) →
    ForSome held (λ o. IsSettledAs result (verdict_for o asked) files files' before after)
settled_as held asked command files files' before after answer result e (o, can, h) c s = (o, can, rw e (settled_by (command_verdict o command) files files' before after answer result h c.cause s))

no_words : {E : Type 0} (files files' : FilesSeen) (lists : List (List Note)) (result : Result Said E) → IfOk result (λ said. said ≡ refused_said BadWords) → IsSettledAs result (Err BadWords) files files' lists lists
no_words files files' lists (Ok said) s = record { said = s; missing = λ name e. cc; told = none_added lists [] refl; begun = tt }
no_words files files' lists (Err error) s = record { said = tt; missing = tt; told = tt; begun = none_begun lists [] }

-- words that ask for nothing are refused, and no handler is told anything
pub refused_as : {E : Type 0} (held : Option Held) (asked : Option Command) (files files' : FilesSeen) (lists : List (List Note)) (result : Result Said E) → asked ≡ None →
    IfOk result (λ said. said ≡ refused_said BadWords) → ForSome held (λ o. IsSettledAs result (verdict_for o asked) files files' lists lists)
refused_as held asked files files' lists result e s =
    let (o, can) = some_openings held in
    (o, can, rw e (no_words files files' lists result s))

-- memory ran out before anything was told
pub starved_as : {E : Type 0} (held : Option Held) (expected : Openings → Result Verdict Refusal) (files files' : FilesSeen) (lists : List (List Note)) (error : E) →
    ForSome held (λ o. IsSettledAs (Err error) (expected o) files files' lists lists)
starved_as held expected files files' lists error =
    let (o, can) = some_openings held in
    (o, can, record { said = tt; missing = tt; told = tt; begun = none_begun lists (ended (expected o)).notes })

-- ---- its cause

by_text : (MaySayNo : Type 0) (before after : ℕ) (o : Outcome) → IsTextual MaySayNo o → Shows MaySayNo before after o
by_text MaySayNo before after outcome.No h = h
by_text MaySayNo before after outcome.ReadFault h = absurd h
by_text MaySayNo before after other h = tt

-- a text has no other cause than its own
pub text_shows : (MaySayNo : Type 0) (answer : Result Said Stop) (before after : ℕ) → IfOk answer (λ said. IsTextual MaySayNo said.outcome) → IfOk answer (λ said. Shows MaySayNo before after said.outcome)
text_shows MaySayNo (Ok said) before after h = by_text MaySayNo before after said.outcome h
text_shows MaySayNo (Err stop) before after h = tt

by_refusal : (MaySayNo : Type 0) (before after : FilesSeen) (refusal : Refusal) → HasFileCause before after refusal → Shows MaySayNo before.faults after.faults (outcome_of refusal)
by_refusal MaySayNo before after (CannotRead name) h = h
by_refusal MaySayNo before after other h = tt

-- what is said by steps has its cause
settled_by_steps : {E : Type 0} (MaySayNo : Type 0) (answer : Result Said Stop) (result : Result Said E) (before after : FilesSeen) → IfOk answer (λ said. Shows MaySayNo before.faults after.faults said.outcome) → StopsByFile answer before after →
    IfOk result (IsSettled answer) → IfOk result (λ said. Shows MaySayNo before.faults after.faults said.outcome)
settled_by_steps MaySayNo answer (Err error) before after h c s = tt
settled_by_steps MaySayNo (Ok answer) (Ok said) before after h c s = let same : said ≡ answer = s in rw same h
settled_by_steps MaySayNo (Err (stop.Refused refusal)) (Ok said) before after h c s = let same : said ≡ refused_said refusal = s in rw same (by_refusal MaySayNo before after refusal c)
settled_by_steps MaySayNo (Err stop.Memory) (Ok said) before after h c s = absurd s

pub settled_shows : {E : Type 0} (asked : Option Command) (command : Command) (answer : Result Said Stop) (result : Result Said E) (before after : FilesSeen) → asked ≡ Some command →
    IfOk answer (λ said. Shows (SaysNo (Some command)) before.faults after.faults said.outcome) → Looked answer 0 before after → IfOk result (IsSettled answer) → IfOk result (λ said. Shows (SaysNo asked) before.faults after.faults said.outcome)
settled_shows asked command answer result before after e h c s = rw e (settled_by_steps (SaysNo (Some command)) answer result before after h c.cause s)

pub refused_shows : {E : Type 0} (MaySayNo : Type 0) (result : Result Said E) (before after : ℕ) → IfOk result (λ said. said ≡ refused_said BadWords) → IfOk result (λ said. Shows MaySayNo before after said.outcome)
refused_shows MaySayNo (Ok said) before after s = let same : said ≡ refused_said BadWords = s in rw same tt
refused_shows MaySayNo (Err error) before after s = tt
