use Rattle.thread_slots.proofs.Words.{◌≡◌, drop, programs}
use Rattle.thread_slots.proofs.starting.program_all.Given as goal

abbrev pub invariant-loop-i : goal.invariant-loop-i
invariant-loop-i l = record {
  widths : l.unit.widths ≡ l.fn.unit.widths;
  done : programs l.fn.unit.widths l.domain (λ n. 0) (drop l.i l.pins) l.unit.registers ≡ programs l.fn.unit.widths l.domain (λ n. 0) l.pins l.fn.unit.registers;
}
