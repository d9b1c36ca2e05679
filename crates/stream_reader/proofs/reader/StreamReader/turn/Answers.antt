use Rattle.stream_reader.proofs.Turning.{line_turns}
use Rattle.stream_reader.proofs.reader.StreamReader.turn.Goals as goal

pub returns-in-Some-skipped_line-clause-turns : goal.returns-in-Some-skipped_line-clause-turns
returns-in-Some-skipped_line-clause-turns g c = line_turns _ _ _ _ c.requires c.in-Some-skipped_line.ensures.found c.take_judged-in-Some-skipped_line.ensures

pub returns-in-Some-line_len-clause-turns : goal.returns-in-Some-line_len-clause-turns
returns-in-Some-line_len-clause-turns g c = line_turns _ _ _ _ c.requires c.in-Some-line_len.ensures c.take_line.ensures
