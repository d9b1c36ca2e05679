use Rattle.stream_reader.proofs.reader.answer_of.Goals as goal

pub returns-in-Bad : goal.returns-in-Bad
returns-in-Bad c = cc

pub returns-in-Occurs : goal.returns-in-Occurs
returns-in-Occurs c = cc

pub returns-in-Skipped : goal.returns-in-Skipped
returns-in-Skipped c = cc

pub returns-in-Skipped-2 : goal.returns-in-Skipped-2
returns-in-Skipped-2 c = cc
