use Rattle.papi_tools.proofs.Words.{◌≡◌, ◌∙◌, arith, map-id, rules, sym, YieldsList-from_vec, YieldsList-end}
use Rattle.papi_tools.proofs.StreamLemmas.{by_either, failed_more, sources_in-append}
use Rattle.papi_tools.proofs.streams.close_readers.Goals as goal

pub loop-reader-preserved : goal.loop-reader-preserved
loop-reader-preserved g c = record {
  faulty = λ some. by_either _ _ _ (failed_more _ _ some) c.loop-reader.invariant.faulty c.close_reader.ensures.faulty c.loop-reader.invariant.faults_stay c.close_reader.ensures.faults_stay;
  lent = rw sources_in-append (let h = c.loop-reader.invariant.lent in let k = c.close_reader.ensures.lent in omega arith);
  held = search rules;
  misses_stay = omega arith;
  faults_stay = omega arith;
}

pub returns : goal.returns
returns g c =
    let end =
    YieldsList-end (YieldsList-from_vec {s = c.into_iter-reader-iterator.result} c.args.readers.items (search rules) (search rules))
    c.loop-reader.yielded c.loop-reader.reader-iterator c.loop-reader.yielded_by c.next.result c.next.new.self c.in-None.is c.next.ensures.steps in
    let all : c.loop-reader.yielded ≡ c.args.readers.items = sym (map-id c.loop-reader.yielded) ∙ end.0 in
    let closed = c.loop-reader.invariant in
    record { faulty = rw (sym all) closed.faulty; lent = rw (sym all) closed.lent; held = closed.held; misses_stay = closed.misses_stay; faults_stay = closed.faults_stay }
