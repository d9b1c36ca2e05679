use Rattle.script_runner.proofs.Words.{take, All, IsGoodAsk, asked_of}
use Rattle.script_runner.proofs.fitting.lines_fit.Given as goal

abbrev pub invariant-loop-line : goal.invariant-loop-line
invariant-loop-line l = All (λ k. IsGoodAsk l.catalog (asked_of l.catalog k.call)) (take l.line-index l.line-items)
