use Rattle.std.proofs.Common.{◌≡◌, ◌++◌, map, string_bytes}
use Rattle.component_table.proofs.catalog.taken_apart.Given as goal

abbrev pub invariant-loop-event : goal.invariant-loop-event
invariant-loop-event l = record {
  entries : l.entries.items ≡ l.initial.entries.items ++ map (λ e. e.entry) l.yielded;
  names : map string_bytes l.names.items ≡ map (λ e. string_bytes e.name) l.yielded;
}
