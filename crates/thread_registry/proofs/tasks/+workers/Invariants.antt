use Rattle.std.proofs.Common.{◌+◌, ◌*◌, max}
use Rattle.thread_registry.proofs.tasks.+workers.Given as goal

abbrev pub decreases-work_parts-first : goal.decreases-work_parts-first
decreases-work_parts-first g l = 3 * l.low + 1

abbrev pub decreases-work_parts-second : goal.decreases-work_parts-second
decreases-work_parts-second g l = 3 * l.high + 1

abbrev pub decreases-work_parts : goal.decreases-work_parts
decreases-work_parts g l = 3 * max l.low l.high + 2

abbrev pub decreases-work_slice : goal.decreases-work_slice
decreases-work_slice g l = 3 * l.workers
