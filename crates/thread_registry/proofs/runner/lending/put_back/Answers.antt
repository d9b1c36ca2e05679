use Rattle.thread_registry.proofs.Words.{false, arith, ap, ◌∙◌, ◌≡◌, ◌++◌, ◌∷◌, [], nat_tests}
use Rattle.thread_registry.proofs.Lists.{all-more, map-push, neither, no-items, put-all, put-more, put-none}
use Rattle.thread_registry.proofs.runner.lending.put_back.Goals as goal

pub loop-put-init : goal.loop-put-init
loop-put-init g c = grind (arith, nat_tests, put-none, no-items)

pub loop-put-preserved : goal.loop-put-preserved
loop-put-preserved g c =
    let inv = c.loop-put.invariant in
    let last = c.take_last-session.ensures.items in
    record {
      jobs_len = omega arith;
      handlers_len = omega (arith, c.push_reserved.ensures.len, inv.handlers_len);
      readers_len = omega (arith, c.push_reserved-in-loop-put.ensures.len, inv.readers_len);
      replies_len = omega (arith, c.push_reserved-in-loop-put-2.ensures.len, inv.replies_len);
      room = c.push_reserved.ensures.capacity ∙ inv.room;
      reader_room = c.push_reserved-in-loop-put.ensures.capacity ∙ inv.reader_room;
      reply_room = c.push_reserved-in-loop-put-2.ensures.capacity ∙ inv.reply_room;
      handlers = put-more _ _ _ _ _ _ _ last (map-push _ _ _ _ c.push_reserved.ensures.items) inv.handlers;
      readers = put-more _ _ _ _ _ _ _ last (c.push_reserved-in-loop-put.ensures.items ∙ ap (λ r. c.loop-put.readers.items ++ r ∷ []) c.into_reader.ensures) inv.readers;
      replies = put-more _ _ _ _ _ _ _ last c.push_reserved-in-loop-put-2.ensures.items inv.replies;
      whole = λ e all. inv.whole (neither c.loop-put.refused _ e).0 (all-more (λ j. j.starved ≡ false) _ _ _ last all (neither c.loop-put.refused _ e).1);
    }

pub returns-clause-handlers : goal.returns-clause-handlers
returns-clause-handlers g c = put-all _ _ _ c.loop-put.jobs.items (omega (arith, c.loop-put.invariant.jobs_len, c.loop-put.jobs.ok.0)) c.loop-put.invariant.handlers

pub returns-clause-readers : goal.returns-clause-readers
returns-clause-readers g c = put-all _ _ _ c.loop-put.jobs.items (omega (arith, c.loop-put.invariant.jobs_len, c.loop-put.jobs.ok.0)) c.loop-put.invariant.readers

pub returns-clause-replies : goal.returns-clause-replies
returns-clause-replies g c = put-all _ _ _ c.loop-put.jobs.items (omega (arith, c.loop-put.invariant.jobs_len, c.loop-put.jobs.ok.0)) c.loop-put.invariant.replies
