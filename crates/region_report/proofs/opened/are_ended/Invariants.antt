use Rattle.region_report.proofs.Words.{◌≡◌, drop, stacks_text, all_ended}
use Rattle.region_report.proofs.opened.are_ended.Given as goal

abbrev pub invariant-loop-opens : goal.invariant-loop-opens
invariant-loop-opens l = all_ended (stacks_text l.threads) ≡ all_ended (stacks_text (drop l.opens-index l.threads))
