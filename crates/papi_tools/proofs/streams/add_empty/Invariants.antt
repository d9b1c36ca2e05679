use Rattle.papi_tools.proofs.Words.{◌≡◌, ◌≤◌, ◌-◌, ◌++◌, All, None, Some, map, replicate, vec_capacity, vec_len, true, coming, new_view, IsFresh}
use Rattle.papi_tools.proofs.Words.{empty_stream, sources_in}
use Rattle.papi_tools.proofs.streams.add_empty.Given as goal

abbrev pub invariant-loop-readers : goal.invariant-loop-readers
invariant-loop-readers g l = record {
  few : vec_len l.readers ≤ 64;
  more : vec_len l.initial.readers ≤ vec_len l.readers;
  room : vec_capacity l.readers ≡ vec_capacity l.initial.readers;
  fresh : All IsFresh l.readers.items;
  empty : l.readers.items ≡ l.initial.readers.items ++ replicate (vec_len l.readers - vec_len l.initial.readers) (new_view None true);
  comes : map coming l.readers.items ≡ map coming l.initial.readers.items ++ replicate (vec_len l.readers - vec_len l.initial.readers) (Some empty_stream);
  sources : sources_in l.readers.items ≡ sources_in l.initial.readers.items;
}

abbrev pub decreases-loop-readers : goal.decreases-loop-readers
decreases-loop-readers g l = 64 - vec_len l.readers
