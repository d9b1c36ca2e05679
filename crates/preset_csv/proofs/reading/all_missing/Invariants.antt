use Rattle.std.proofs.Common.{◌≡◌, replicate}
use Rattle.preset_csv.specs.declared.entry.Entry.TheVariants as entry
use Rattle.preset_csv.proofs.reading.all_missing.Given as goal

abbrev pub invariant-loop : goal.invariant-loop
invariant-loop l = l.entries.items ≡ replicate l.counter entry.Missing
