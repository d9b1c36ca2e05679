use Rattle.csv.specs.Records.{fields_of}
use Rattle.preset_csv.proofs.NativesKept.{found-kept}
use Rattle.preset_csv.proofs.judging.judge.Goals as goal

pub kept_entry-requires-clause-each : goal.kept_entry-requires-clause-each
kept_entry-requires-clause-each g c = found-kept (fields_of c.args.row.now) _ _ c.requires c.in_ok-natives.ensures.natives
