use Rattle.std.proofs.Common.{arith}
use Rattle.stream_reader.proofs.Turning.{end_takes, last_takes}
use Rattle.stream_reader.proofs.reader.StreamReader.take_last.Goals as goal

pub returns-then-size-eq0-clause-takes : goal.returns-then-size-eq0-clause-takes
returns-then-size-eq0-clause-takes g c = grind (arith, end_takes)

pub returns-clause-takes : goal.returns-clause-takes
returns-clause-takes g c = grind (arith, last_takes)
