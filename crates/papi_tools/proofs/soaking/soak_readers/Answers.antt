use Rattle.papi_tools.proofs.Words.{◌∙◌, Some, ap, arith, rules, All-push, End, occurs_of, coming, IsFresh}
use Rattle.papi_tools.proofs.SoakLemmas.{all_readers, reader_more}
use Rattle.papi_tools.proofs.StreamLemmas.{count}
use Rattle.papi_tools.proofs.soaking.soak_readers.Goals as goal

pub loop-thread-preserved : goal.loop-thread-preserved
loop-thread-preserved c = record {
  len = grind arith;
  room = grind arith;
  fresh = rw c.push_reserved.ensures.items (All-push IsFresh _ _ c.loop-thread.invariant.fresh (search rules));
  comes =
      rw c.push_reserved.ensures.items
      (reader_more c.args.rounds c.loop-thread.thread _ c.new.result c.loop-thread.invariant.comes (c.new.ensures.coming ∙ ap (λ bytes. Some (occurs_of End bytes)) c.new-source.ensures));
}

pub returns-clause-told : goal.returns-clause-told
returns-clause-told c = record {
  each = all_readers c.args.rounds c.loop-thread.thread _ _ _ (omega arith) c.loop-thread.invariant.comes (count coming c.loop-thread.readers) c.add_empty.ensures.coming;
}
