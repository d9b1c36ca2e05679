use Rattle.std.proofs.Common.{arith}
use Rattle.stream_reader.proofs.Turning.{fault_takes, piece_passes, takes_after}
use Rattle.stream_reader.proofs.reader.StreamReader.take_piece.Goals as goal

pub returns-in-Ok-eq0-clause-turns : goal.returns-in-Ok-eq0-clause-turns
returns-in-Ok-eq0-clause-turns g c = grind (arith, fault_takes, piece_passes, takes_after)

pub returns-in-Ok-clause-turns : goal.returns-in-Ok-clause-turns
returns-in-Ok-clause-turns g c = grind (arith, fault_takes, piece_passes, takes_after)

pub returns-in-Err-clause-turns : goal.returns-in-Err-clause-turns
returns-in-Err-clause-turns g c = grind (arith, fault_takes, piece_passes, takes_after)
