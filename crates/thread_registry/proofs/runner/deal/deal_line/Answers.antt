use Rattle.thread_registry.proofs.Words.{arith, nat_tests, get_or-map, get_or_default}
use Rattle.thread_registry.proofs.Dealt.{deal-one, one-call}
use Rattle.thread_registry.proofs.runner.deal.deal_line.Goals as goal

pub returns-in_ok-push-clause-each : goal.returns-in_ok-push-clause-each
returns-in_ok-push-clause-each c = grind (arith, nat_tests, get_or-map, deal-one, get_or_default, one-call)
