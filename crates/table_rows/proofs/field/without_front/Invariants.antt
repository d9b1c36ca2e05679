use Rattle.table_rows.proofs.Words.{◌≡◌, drop, without_front}
use Rattle.table_rows.proofs.field.without_front.Given as goal

abbrev pub invariant-loop-i : goal.invariant-loop-i
invariant-loop-i l = without_front l.bytes ≡ without_front (drop l.i l.bytes)
