use Rattle.thread_registry.proofs.EachLemmas.{each-joined}
use Rattle.thread_registry.proofs.tasks.+workers.Goals as goal

pub work_slice-returns : goal.work_slice-returns
work_slice-returns g t c =
    each-joined _ _ _ _ _ _ c.split_at_mut-front.ensures.value c.work_parts.ensures.front c.work_parts.ensures.back
