use Rattle.std.proofs.Common.{arith}
use Rattle.stream_reader.proofs.ByteTables.{decimals-at, decimal-most}
use Rattle.stream_reader.proofs.byte_tables.decimal_or_256.Goals as goal

pub returns-clause-value : goal.returns-clause-value
returns-clause-value c = decimals-at c.args.byte (omega arith)

pub returns-clause-most : goal.returns-clause-most
returns-clause-most c = omega (arith, decimals-at c.args.byte (omega arith), decimal-most c.args.byte)
