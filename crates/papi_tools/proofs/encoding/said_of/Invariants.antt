use Rattle.papi_tools.proofs.Words.{◌≡◌, ◌++◌, drop, take, is_ok, list_all, names, encoding_lines}
use Rattle.papi_tools.proofs.encoding.said_of.Given as goal

abbrev pub invariant-loop-name : goal.invariant-loop-name
invariant-loop-name l = record {
  written : encoding_lines l.tables l.names ≡ l.lines ++ encoding_lines l.tables (drop l.name-index l.names);
  judged : l.all_encode ≡ list_all (λ n. is_ok (names l.tables n)) (take l.name-index l.names);
}
