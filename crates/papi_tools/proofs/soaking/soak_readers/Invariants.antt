use Rattle.papi_tools.proofs.Words.{◌≡◌, All, Some, map, vec_capacity, vec_len, range_with_len, coming, IsFresh, soak_tape, stream_of}
use Rattle.papi_tools.proofs.soaking.soak_readers.Given as goal

abbrev pub invariant-loop-thread : goal.invariant-loop-thread
invariant-loop-thread l = record {
  len : vec_len l.readers ≡ l.thread;
  room : vec_capacity l.readers ≡ 64;
  fresh : All IsFresh l.readers.items;
  comes : map coming l.readers.items ≡ map (λ t. Some (stream_of t)) (map (soak_tape l.rounds) (range_with_len 0 l.thread));
}
