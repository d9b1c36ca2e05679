use Rattle.std.proofs.Common.{arith}
use Rattle.stream_reader.proofs.DigitRuns.{run_all, run_some, run_most}
use Rattle.stream_reader.proofs.digit_vector.leading_digits.Goals as goal

pub returns-then-others-eq0-clause-value : goal.returns-then-others-eq0-clause-value
returns-then-others-eq0-clause-value c = grind (arith, run_all, run_some, run_most)

pub returns-then-others-eq0-clause-most : goal.returns-then-others-eq0-clause-most
returns-then-others-eq0-clause-most c = grind (arith, run_all, run_some, run_most)

pub returns-else-others-eq0-clause-value : goal.returns-else-others-eq0-clause-value
returns-else-others-eq0-clause-value c = grind (arith, run_all, run_some, run_most)

pub returns-else-others-eq0-clause-most : goal.returns-else-others-eq0-clause-most
returns-else-others-eq0-clause-most c = grind (arith, run_all, run_some, run_most)
