use Rattle.std.proofs.Common.{arith}
use Rattle.stream_reader.proofs.ByteTables.{digits-at, digit-most}
use Rattle.stream_reader.proofs.byte_tables.digit_or_256.Goals as goal

pub returns-clause-value : goal.returns-clause-value
returns-clause-value c = digits-at c.args.byte (omega arith)

pub returns-clause-most : goal.returns-clause-most
returns-clause-most c = omega (arith, digits-at c.args.byte (omega arith), digit-most c.args.byte)
