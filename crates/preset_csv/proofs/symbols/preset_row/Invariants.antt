use Rattle.preset_csv.proofs.Searching.{NoneBefore}
use Rattle.preset_csv.proofs.symbols.preset_row.Given as goal
use Rattle.preset_csv.specs.Symbols.{preset_rows}

abbrev pub invariant-loop-row : goal.invariant-loop-row
invariant-loop-row l = NoneBefore l.fn.symbol preset_rows l.row
