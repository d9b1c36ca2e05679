use Rattle.preset_csv.proofs.Words.{rules, sym, arith, preset_rows, row_of, symbol_at}
use Rattle.preset_csv.proofs.Searching.{passes_over, stops_at, finds_none, rows_counted}
use Rattle.preset_csv.proofs.symbols.preset_row.Goals as goal

pub loop-row-init : goal.loop-row-init
loop-row-init c i below = absurd (omega (arith, below))

pub returns-then-eq-clause-row : goal.returns-then-eq-clause-row
unfolding row_of symbol_at
returns-then-eq-clause-row c =
    sym (stops_at c.args.symbol.now preset_rows c.loop-row.row c.loop-row.invariant (omega (arith, c.loop-row-test.true, rows_counted)) (search (rules, c.preset_symbol.ensures.symbol, c.if-eq.ensures)))

pub loop-row-preserved : goal.loop-row-preserved
unfolding symbol_at
loop-row-preserved c =
    passes_over c.args.symbol.now preset_rows c.loop-row.row c.loop-row.invariant (omega (arith, c.loop-row-test.true, rows_counted)) (search (rules, c.preset_symbol.ensures.symbol, c.if-eq.ensures))

pub returns-clause-row : goal.returns-clause-row
unfolding row_of
returns-clause-row c = sym (finds_none c.args.symbol.now preset_rows (λ i below. c.loop-row.invariant i (omega (arith, below, c.loop-row-test.false, rows_counted))))
