use Rattle.papi_tools.proofs.Words.{Ok, arith, refl, vec_len, tapes_under, streams_of}
use Rattle.papi_tools.proofs.FindingLemmas.{failed}
use Rattle.papi_tools.proofs.HoldingLemmas.{held_then, same_held}
use Rattle.papi_tools.proofs.LookingLemmas.{stopped_then}
use Rattle.papi_tools.proofs.OpeningLemmas.{streams_found}
use Rattle.papi_tools.proofs.streams.open_readers.Goals as goal

pub returns-in-Ok-clause-found : goal.returns-in-Ok-clause-found
returns-in-Ok-clause-found g c =
    streams_found c.open_into.new.readers.items _ (vec_len c.open_into.new.readers) c.args.names.now _ (grind arith) c.add_empty.ensures.empty c.open_into.ensures.unread c.in-Ok.ensures.found

pub returns-in-Err-clause-found : goal.returns-in-Err-clause-found
returns-in-Err-clause-found g c = failed c.in-Err.stop (λ o. tapes_under o c.args.names.now) (λ o tapes. Ok (streams_of tapes)) _ c.in-Err.ensures.found

pub returns-in-Ok-clause-looked : goal.returns-in-Ok-clause-looked
returns-in-Ok-clause-looked g c =
    let looked = c.in-Ok.ensures.looked in
    record { cause = tt; misses_stay = looked.misses_stay; faults_stay = looked.faults_stay; lent = omega (arith, looked.lent, c.add_empty.ensures.sources) }

pub returns-in-Err-clause-looked : goal.returns-in-Err-clause-looked
returns-in-Err-clause-looked g c =
    let looked = c.in-Err.ensures.looked in
    let closed = c.close_readers.ensures in
    record {
      cause = stopped_then _ _ _ _ _ looked closed.misses_stay closed.faults_stay;
      misses_stay = omega (arith, looked.misses_stay, closed.misses_stay);
      faults_stay = omega (arith, looked.faults_stay, closed.faults_stay);
      lent = omega (arith, looked.lent, closed.lent);
    }

pub returns-in_err-readers-clause-held : goal.returns-in_err-readers-clause-held
returns-in_err-readers-clause-held g c = same_held _ _ refl

pub returns-in-Err-clause-held : goal.returns-in-Err-clause-held
returns-in-Err-clause-held g c = held_then _ _ _ c.in-Err.ensures.held c.close_readers.ensures.held
