-- none of the checks before this one holds
use Rattle.thread_core.proofs.Words.{first_code, drop, ◌≡◌, first_of, map, row}
use Rattle.thread_core.proofs.refusal.first_of.Given as goal

abbrev pub invariant-loop-check : goal.invariant-loop-check
invariant-loop-check l = record {
  code : first_code (drop l.check-index l.checks) ≡ first_code l.checks;
  refusal : first_of (map (λ check. row check.0 check.1) (drop l.check-index l.checks)) ≡ first_of (map (λ check. row check.0 check.1) l.checks);
}
