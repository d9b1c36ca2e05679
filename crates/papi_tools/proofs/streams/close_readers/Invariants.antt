use Rattle.papi_tools.proofs.Words.{◌≡◌, ◌≤◌, ◌-◌, Rose, SomeFailed, sources_in}
use Rattle.papi_tools.proofs.streams.close_readers.Given as goal

abbrev pub invariant-loop-reader : goal.invariant-loop-reader
invariant-loop-reader g l = record {
  faulty : SomeFailed l.yielded → Rose (g.F.Files.faults l.initial.files) (g.F.Files.faults l.files);
  lent : g.F.Files.lent l.files ≡ g.F.Files.lent l.initial.files - sources_in l.yielded;
  held : g.F.Files.held l.files ≡ g.F.Files.held l.initial.files;
  misses_stay : g.F.Files.misses l.initial.files ≤ g.F.Files.misses l.files;
  faults_stay : g.F.Files.faults l.initial.files ≤ g.F.Files.faults l.files;
}
