use Rattle.postfix_rules.proofs.Written.{written_bytes, written_read}
use Rattle.postfix_rules.proofs.laws.writing_laws.Goals as goal

pub returns : goal.returns
returns c = record { read = written_read; bytes = written_bytes }
