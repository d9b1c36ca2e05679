use Rattle.preset_csv.proofs.Words.{not_given, is_printable}
use Rattle.preset_csv.proofs.SymbolRows.{no-symbol}
use Rattle.preset_csv.proofs.symbols.symbol_row.Goals as goal

pub returns-in-None : goal.returns-in-None
returns-in-None c = record { row = no-symbol c.args.symbol.now (not_given (is_printable c.args.symbol.now) c.args.symbol.now c.in-None.ensures); within = tt }
