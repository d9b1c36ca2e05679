use Rattle.thread_registry.proofs.Merged.{rest_from}
use Rattle.thread_registry.proofs.runner.merge.taken_after.Goals as goal

pub returns-in-Call : goal.returns-in-Call
returns-in-Call c = record { rest = rest_from c.args.taken c.args.replies.now _ _ c.in-Call.is c.requires.replied }
