use Rattle.script_lines.specs.Words.{texts}
use Rattle.script_lines.proofs.Splits.{Reads}
use Rattle.script_lines.proofs.words.split_words.Given as goal

abbrev pub invariant-loop-i : goal.invariant-loop-i
invariant-loop-i l = Reads l.line l.from l.i (texts l.words.items)
