use Rattle.table_rows.proofs.Words.{◌≡◌, ◌≤◌, length, take, reverse, without_front}
use Rattle.table_rows.proofs.field.without_back.Given as goal

abbrev pub invariant-loop-n : goal.invariant-loop-n
invariant-loop-n l = record { inside : l.n ≤ length l.bytes; same : without_front (reverse l.bytes) ≡ without_front (reverse (take l.n l.bytes)) }

abbrev pub decreases-loop-n : goal.decreases-loop-n
decreases-loop-n l = l.n
