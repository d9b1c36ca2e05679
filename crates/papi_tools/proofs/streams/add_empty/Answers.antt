use Rattle.papi_tools.proofs.Words.{◌≡◌, None, Some, arith, rules, vec_len, true, map-append, All-push, coming, new_view, IsFresh, empty_stream}
use Rattle.papi_tools.proofs.StreamLemmas.{one_empty_more, sources_in-append}
use Rattle.papi_tools.proofs.streams.add_empty.Goals as goal

pub loop-readers-preserved : goal.loop-readers-preserved
loop-readers-preserved g c = record {
  few = grind arith;
  more = grind arith;
  room = grind arith;
  fresh = rw c.push_reserved.ensures.items (All-push IsFresh _ _ c.loop-readers.invariant.fresh (search rules));
  empty =
      rw c.push_reserved.ensures.items (rw c.ended.ensures.view (one_empty_more _ _ (new_view None true) (vec_len c.args.readers.now) (vec_len c.loop-readers.readers) (vec_len c.push_reserved.new.self) c.loop-readers.invariant.empty c.loop-readers.invariant.more (grind arith)));
  comes =
      rw (c.push_reserved.ensures.items, map-append) (let v : coming c.ended.result ≡ Some empty_stream = search rules in
      rw v (one_empty_more _ _ (Some empty_stream) (vec_len c.args.readers.now) (vec_len c.loop-readers.readers) (vec_len c.push_reserved.new.self) c.loop-readers.invariant.comes c.loop-readers.invariant.more (grind arith)));
  sources = rw (c.push_reserved.ensures.items, sources_in-append, c.ended.ensures.view) (let h = c.loop-readers.invariant.sources in omega arith);
}
