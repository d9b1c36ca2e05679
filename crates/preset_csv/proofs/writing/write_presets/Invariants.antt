use Rattle.preset_csv.proofs.WrittenParts.{IsText}
use Rattle.preset_csv.proofs.writing.write_presets.Given as goal

abbrev pub invariant-loop-i : goal.invariant-loop-i
invariant-loop-i l = IsText l.t l.i l.text.items
