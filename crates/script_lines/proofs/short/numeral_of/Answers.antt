use Rattle.std.proofs.Common.{◌∙◌, ◌==◌, arith, get_or, sym}
use Rattle.std.specs.Prelude.{not}
use Rattle.std.proofs.lemmas.Bool.{eq-eqb, not_from_false, or_left, or_right}
use Rattle.script_lines.proofs.ShortNumbers.{number-from}
use Rattle.script_lines.proofs.short.numeral_of.Goals as goal
use Rattle.script_lines.proofs.short.numeral_of.Goals.{then-size-ne1, else-size-ne1}

pub returns : goal.returns
returns c =
    let s = c.args.bytes.now in
    let n = c.args.size in
    elim c.if-size-ne1.branch [
      | then-size-ne1 w ↦ number-from s n c.args.value (omega arith) c.requires.inside c.requires.digits (or_right (n == 1) _ (not_from_false _ (sym w.value-is ∙ c.if-bytes-eq48.false))) c.requires.value
      | else-size-ne1 w ↦ number-from s n c.args.value (omega arith) c.requires.inside c.requires.digits (or_left _ (not (get_or s 0 0 == 48)) (eq-eqb n 1 w.if-size-ne1.false)) c.requires.value
    ]
