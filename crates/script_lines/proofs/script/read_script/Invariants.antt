use Rattle.std.proofs.Common.{length}
use Rattle.script_lines.specs.Kept.{IsScript}
use Rattle.script_lines.specs.Scripts.{scripts}
use Rattle.script_lines.proofs.Reading.{Reads}
use Rattle.script_lines.proofs.script.read_script.Given as goal

abbrev pub invariant-loop-rest : goal.invariant-loop-rest
invariant-loop-rest l = record {
  reads : Reads scripts 0 l.bytes l.rest l.number (length l.lines.items) l.lines.items;
  kept : IsScript l.lines.items;
}

abbrev pub decreases-loop-rest : goal.decreases-loop-rest
decreases-loop-rest l = length l.rest
