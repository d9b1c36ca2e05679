use Rattle.std.proofs.Common.{rules}
use Rattle.reply_lists.proofs.BodyLemmas.{kept_assigned, kept_clash}
use Rattle.reply_lists.proofs.keeping.keep.Goals as goal

pub returns-in_ok-counters-in-Assigned-clause-kept :
    goal.returns-in_ok-counters-in-Assigned-clause-kept
returns-in_ok-counters-in-Assigned-clause-kept c =
    kept_assigned _ _ _ c.in-Assigned.assigned _ c.in_ok-natives-in-Assigned.ensures.span c.in_ok-counters-in-Assigned.ensures.span (search rules)

pub returns-in_ok-natives-in-Clash-clause-kept : goal.returns-in_ok-natives-in-Clash-clause-kept
returns-in_ok-natives-in-Clash-clause-kept c = kept_clash _ _ c.in-Clash.clash _ c.in_ok-natives-in-Clash.ensures.span (search rules)
