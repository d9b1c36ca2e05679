use Rattle.papi_tools.proofs.Words.{◌≡◌, ◌≤◌, ◌+◌, All, drop, vec_capacity, vec_len, IsFresh, StaysHeld, IsUnread, sources_in}
use Rattle.papi_tools.proofs.OpeningLemmas.{AreOpen}
use Rattle.papi_tools.proofs.streams.open_into.Given as goal

abbrev pub invariant-loop-name : goal.invariant-loop-name
invariant-loop-name g l = record {
  found : AreOpen (g.F.Files.held l.initial.files) l.names (drop l.name-index l.names) (g.F.Files.held l.files) l.readers.items;
  unread : All IsUnread l.readers.items;
  each : vec_len l.readers ≡ l.name-index;
  room : vec_capacity l.readers ≡ vec_capacity l.initial.readers;
  fresh : All IsFresh l.readers.items;
  lent : g.F.Files.lent l.files ≡ g.F.Files.lent l.initial.files + sources_in l.readers.items;
  held : StaysHeld (g.F.Files.held l.initial.files) (g.F.Files.held l.files);
  misses_stay : g.F.Files.misses l.initial.files ≤ g.F.Files.misses l.files;
  faults_stay : g.F.Files.faults l.initial.files ≤ g.F.Files.faults l.files;
}
