use Rattle.std.proofs.Common.{[], ap, ◌∙◌, get_or}
use Rattle.thread_registry.proofs.Worlds.{if_ok}
use Rattle.thread_registry.proofs.runner.run.open_planned.Goals as goal

pub returns-clause-dealt : goal.returns-clause-dealt
returns-clause-dealt c = if_ok c.open_works.result _ _ c.open_works.ensures.calls (λ works ok e. λ t h. ap (λ l. get_or l t []) e ∙ c.in_ok-lists.ensures.each t h)
