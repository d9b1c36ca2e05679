use Rattle.thread_registry.proofs.Merged.{registered_from}
use Rattle.thread_registry.proofs.runner.merge.answer_next.Goals as goal

pub returns-in-Call-clause-registered : goal.returns-in-Call-clause-registered
returns-in-Call-clause-registered c =
    registered_from _ _ c.args.taken c.args.replies.now _ _ c.in-Call.call c.code_at.result c.in-Call.is c.requires.replied c.code_at.ensures.code c.keep_registered.ensures.registered
