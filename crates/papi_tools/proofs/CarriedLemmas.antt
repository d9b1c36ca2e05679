-- A call that has said what it has to say, or nothing, has carried out its words.
use Rattle.papi_tools.proofs.Words.{◌≡◌, ℕ, List, [], Option, Some, None, Ok, Err, refl, sym, ap, append-nil, subst, zero-sub, appended, Note}
use Rattle.papi_tools.proofs.Words.{EachGrown, form, CarriesOut, CarriesOutAndTells, CarriesOutOver, FilesSeen, SaysNo, Shows, SinkSeen, StaysHeld}
use Rattle.papi_tools.proofs.Words.{ForSome, Openings, HasSinkCause, Says, IsSettledAs, verdict, verdict_for, Said, Status}
use Rattle.papi_tools.specs.declared.status.Status.TheVariants as status
use Rattle.papi_tools.proofs.FindingLemmas.{some_openings}
use Rattle.papi_tools.proofs.HoldingLemmas.{same_held}
use Rattle.papi_tools.proofs.TellingLemmas.{all_told, none_begun, none_grown}

-- what the words come to has been said, whole or up to where it ended, and handlers have been told their notes
pub carried_out : {E : Type 0} (words : List (List ℕ)) (s : Status) (files files' : FilesSeen) (out out' err err' : SinkSeen) (before after : List (List Note)) (said : Said) →
    ForSome files.held (λ o. IsSettledAs {E = E} (Ok said) (verdict_for o (form words)) files files' before after) → EachGrown before after → Says s said out.taken out'.taken err.taken err'.taken →
    Shows (SaysNo (form words)) files.faults files'.faults said.outcome → HasSinkCause s out.faults out'.faults err.faults err'.faults → files'.lent ≡ files.lent → StaysHeld files.held files'.held →
    CarriesOutAndTells words s files files' out out' err err' before after
carried_out words s files files' out out' err err' before after said (o, can, is) grown says shows sinks returned held =
    let SaysThis : Status → Said → Type 0 = λ x y. Says x y out.taken out'.taken err.taken err'.taken in
    let all : Says s (verdict words o).said out.taken out'.taken err.taken err'.taken = subst (λ (x : Said). SaysThis s x) is.said says in
    let shown : Shows (SaysNo (form words)) files.faults files'.faults (verdict words o).said.outcome = subst (λ (x : Said). Shows (SaysNo (form words)) files.faults files'.faults x.outcome) is.said shows in (
      o,
      can,
      (
        record {
          says = all;
          shows = λ here. shown;
          missing = λ here. is.missing;
          sinks = sinks;
          returned = returned;
          held = held;
        },
        record { tells = all_told s before (verdict words o).notes after is.told; grown = grown },
      ),
    )

appended-nil : (taken : Option (List ℕ)) → taken ≡ appended taken []
appended-nil None = refl
appended-nil (Some xs) = ap Some (sym (append-nil xs))

-- nothing has been said, for memory ran out
starved : (openings : Openings) (words : List (List ℕ)) (files files' : FilesSeen) (out err : SinkSeen) → files'.lent ≡ files.lent → StaysHeld files.held files'.held →
    CarriesOutOver openings words status.Memory files files' out out err err
starved openings words files files' out err returned held = record {
  says = (0, record { out_is = appended-nil out.taken; err_is = rw zero-sub (appended-nil err.taken) });
  shows = λ here. absurd (here refl);
  missing = λ here. absurd (here refl);
  sinks = (refl, refl);
  returned = returned;
  held = held;
}

-- and handlers have been told some of the first of their notes
pub ran_out : {E : Type 0} (words : List (List ℕ)) (files files' : FilesSeen) (out err : SinkSeen) (before after : List (List Note)) (error : E) →
    ForSome files.held (λ o. IsSettledAs (Err error) (verdict_for o (form words)) files files' before after) → EachGrown before after → files'.lent ≡ files.lent → StaysHeld files.held files'.held →
    CarriesOutAndTells words status.Memory files files' out out err err before after
ran_out words files files' out err before after error (o, can, is) grown returned held = (o, can, (starved o words files files' out err returned held, record { tells = is.begun; grown = grown }))

-- a call for which memory ran out before it began
pub not_begun : (words : List (List ℕ)) (files : FilesSeen) (out err : SinkSeen) → CarriesOut words status.Memory files files out out err err
not_begun words files out err =
    let (o, can) = some_openings files.held in
    (o, can, starved o words files files out err refl (same_held _ _ refl))

pub not_begun_tells : (words : List (List ℕ)) (files : FilesSeen) (out err : SinkSeen) (lists : List (List Note)) → CarriesOutAndTells words status.Memory files files out out err err lists lists
not_begun_tells words files out err lists =
    let (o, can) = some_openings files.held in
    (o, can, (starved o words files files out err refl (same_held _ _ refl), record { tells = none_begun lists (verdict words o).notes; grown = none_grown lists }))

-- a call that told handlers has carried out its words
pub without_telling : (words : List (List ℕ)) (s : Status) (files files' : FilesSeen) (out out' err err' : SinkSeen) (before after : List (List Note)) → CarriesOutAndTells words s files files' out out' err err' before after →
    CarriesOut words s files files' out out' err err'
without_telling words s files files' out out' err err' before after (o, can, done) = (o, can, done.0)
