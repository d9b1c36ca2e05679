use Rattle.profil_hist.proofs.Words.{[], ap, arith, length, number_more, lines_at, range_text}
use Rattle.profil_hist.proofs.Profiled.{is_there}
use Rattle.profil_hist.proofs.profile.lines_of.Goals as goal
use Rattle.profil_hist.proofs.profile.lines_of.Goals.{in-Some+in_ok-push_range, in_default}

pub loop-k-preserved : goal.loop-k-preserved
loop-k-preserved c =
    elim c.match-range.branch [
      | in-Some+in_ok-push_range w ↦ rw w.text-is (number_more (lines_at c.args.hist.now) [] _ _ c.loop-k.k c.loop-k.invariant w.in_ok-push_range.ensures)
      | in_default w ↦ absurd (is_there (λ r. range_text r.now) c.range.result _ c.loop-k.k c.range.ensures w.in_default.not-Some
          (omega (arith, c.loop-k-test.true, c.ranges-k-end.ensures.count, ap (λ xs. length xs) c.map.ensures, ap (λ xs. length xs) c.map-in-loop-k.ensures)))
    ]
