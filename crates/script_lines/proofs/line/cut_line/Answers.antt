use Rattle.std.proofs.Common.{◌∙◌, ◌∷◌, ◌-◌, ◌+◌, List, ℕ, ap, drop, length, take, sym}
use Rattle.std.specs.Str.Lines.{lines}
use Rattle.script_lines.proofs.LineCuts.{lines-cut_rest, lines-last}
use Rattle.script_lines.proofs.line.cut_line.Goals as goal

pub returns-in-Some-clause-line : goal.returns-in-Some-clause-line
returns-in-Some-clause-line c =
    let bytes = c.args.bytes.now in
    let n = c.in-Some.end in
    lines-cut_rest bytes n (sym c.in-Some.ensures) ∙ ap (λ (l : List ℕ). l ∷ lines (take (length bytes - (n + 1)) (drop (n + 1) bytes))) (sym c.without_return.ensures)

pub returns-in-None-clause-line : goal.returns-in-None-clause-line
returns-in-None-clause-line c = lines-last c.args.bytes.now (sym c.in-None.ensures) c.requires
