use Rattle.thread_slots.proofs.Words.{◌≡◌, ◌++◌, ◌≤◌, ℕ, get_or, List, length, take, drop, option_copied, with_turn, IsSpanOf}
use Rattle.thread_slots.proofs.counting.count_turn.Given as goal

abbrev pub invariant-loop-i : goal.invariant-loop-i
invariant-loop-i l = record {
  long : length l.counts ≡ length l.fn.counts;
  rest : (k : ℕ) → l.i ≤ k → get_or l.counts k 0 ≡ get_or l.fn.counts k 0;
  done : (numbers : List ℕ) (group : ℕ) → length numbers ≡ length l.natives → IsSpanOf numbers group l.fn.places.first l.fn.places.end
      → let all = with_turn l.domain (option_copied l.before) l.o group l.natives numbers l.fn.counts in l.counts ≡ take l.i all ++ drop l.i l.fn.counts;
}
