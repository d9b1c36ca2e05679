use Rattle.thread_session.proofs.Words.{arith, ap, ◌∙◌, ◌+◌, length-set, drop-set-lt, note}
use Rattle.std.specs.Prelude.{length, unwrap_or}
use Rattle.std.proofs.lemmas.Grind.{common_steps}
use Rattle.thread_session.proofs.Delivering.{fewer_left, next_left, one_note}
use Rattle.thread_session.proofs.Rooms.{one_place}
use Rattle.thread_session.proofs.filling.place.Goals as goal

pub loop-i-preserved : goal.loop-i-preserved
loop-i-preserved c =
    let i = c.loop-i.i in
    let passed = c.args.taken.now.passed in
    let inv = c.loop-i.invariant in
    let here = note c.args.thread c.args.taken.now.set c.args.o.now c.unwrap_or-index.result in
    record {
      size = length-set c.loop-i.out (c.args.at + i) here ∙ inv.size;
      written = one_note _ _ _ c.args.thread c.args.taken.now.set c.unwrap_or-index.result c.args.o.now passed i (omega (arith, c.loop-i-test.true, c.len-i-end.ensures.length))
          (c.unwrap_or-index.ensures ∙ ap (λ x. unwrap_or x 0) (c.pop_first.ensures.first ∙ next_left passed c.loop-i.left i inv.left)) inv.written
          (one_place c.loop-i.out c.args.at i here (omega (arith, c.loop-i-test.true, c.len-i-end.ensures.length, inv.size, c.requires.room)));
      rest = drop-set-lt (c.args.at + length passed) c.loop-i.out (c.args.at + i) here (omega (arith, c.loop-i-test.true, c.len-i-end.ensures.length)) ∙ inv.rest;
      left = c.pop_first.ensures.rest ∙ fewer_left passed c.loop-i.left i inv.left;
    }

pub returns-clause-written : goal.returns-clause-written
returns-clause-written c = grind (arith, common_steps)
