use Rattle.thread_registry.proofs.Words.{◌≡◌, ◌≤◌, ℕ, take, sum_by, GivesEachOne, busy, unevenness}
use Rattle.thread_registry.proofs.tasks.cut.cut.Given as goal

abbrev pub invariant-loop-place : goal.invariant-loop-place
invariant-loop-place g l =
    record {
      front : l.front ≡ sum_by g.T.Task.load (take l.place l.tasks);
      count : l.count ≡ busy g.T.Task.load (take l.place l.tasks);
      enough : l.low ≤ l.count;
      within : l.best ≤ l.place;
      best : GivesEachOne g.T.Task.load l.tasks l.low l.workers l.best;
      uneven : l.least ≡ unevenness g.T.Task.load l.tasks l.low l.workers l.best;
      least : (j : ℕ) → GivesEachOne g.T.Task.load l.tasks l.low l.workers j → j ≤ l.place → l.least ≤ unevenness g.T.Task.load l.tasks l.low l.workers j;
    }
