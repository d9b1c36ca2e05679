use Rattle.std.proofs.Common.{arith}
use Rattle.stream_reader.proofs.ByteTables.{modes-at, mode-most}
use Rattle.stream_reader.proofs.byte_tables.mode_or_256.Goals as goal

pub returns-clause-value : goal.returns-clause-value
returns-clause-value c = modes-at c.args.byte (omega arith)

pub returns-clause-most : goal.returns-clause-most
returns-clause-most c = omega (arith, modes-at c.args.byte (omega arith), mode-most c.args.byte)
